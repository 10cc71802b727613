use Rattle.std.proofs.Common.{false, [], ◌∷◌, ap₂}
use Rattle.std.proofs.lemmas.Result.{err_from_is_err_and}
use Rattle.amqp_model.specs.Composite.{MeansComposite}
use Rattle.amqp_codec.specs.Composite.{table_of, table_with, composite_members}
use Rattle.amqp_codec.specs.laws.Composite.{composite_is_sum}
use Rattle.amqp_codec.specs.laws.Members.{unopened, unread, unended, read_whole}
use Rattle.amqp_codec.proofs.Tries.{taking_none, taking_so, began_then, refused_more, refused_behind}
use Rattle.amqp_codec.proofs.composite.read_composite.Goals as goal
use Rattle.amqp_decoder.proofs.Places.{refused_here}

pub returns-in_err-begin_one_of-clause-read : goal.returns-in_err-begin_one_of-clause-read
returns-in_err-begin_one_of-clause-read g c tells =
    let t = table_with g.C.Composite.names g.C.FieldList.list in
    let names = ap₂ (λ a b. (a, b) ∷ []) c.descriptor.ensures.code c.descriptor.ensures.name in
    let p = err_from_is_err_and c.from_residual.result c.from_residual.ensures.1 in
    rw (p.1, p.2) (unopened (composite_members t) (λ s. MeansComposite (table_of t)) (composite_is_sum t) (c.descriptor.result ∷ []) _
    _ _ names (c.in_err-begin_one_of.ensures.opened tells))

pub returns-in_err-fill_fields-clause-read : goal.returns-in_err-fill_fields-clause-read
returns-in_err-fill_fields-clause-read g c tells =
    let t = table_with g.C.Composite.names g.C.FieldList.list in
    let names = ap₂ (λ a b. (a, b) ∷ []) c.descriptor.ensures.code c.descriptor.ensures.name in
    let p = err_from_is_err_and c.from_residual-in_err-fill_fields.result c.from_residual-in_err-fill_fields.ensures.1 in
    rw (p.1, p.2) (unread (composite_members t) (λ s. MeansComposite (table_of t)) (composite_is_sum t) (c.descriptor.result ∷ []) _ _
    _ _ _ names (c.in_ok-begin_one_of.ensures.opened tells) (c.in_err-fill_fields.ensures.read c.blank-value.ensures tells))

pub returns-in_err-end_described-clause-read : goal.returns-in_err-end_described-clause-read
returns-in_err-end_described-clause-read g c tells =
    let t = table_with g.C.Composite.names g.C.FieldList.list in
    let names = ap₂ (λ a b. (a, b) ∷ []) c.descriptor.ensures.code c.descriptor.ensures.name in
    let p = err_from_is_err_and c.from_residual-in_err-end_described.result c.from_residual-in_err-end_described.ensures.1 in
    rw (p.1, p.2) (unended (composite_members t) (λ s. MeansComposite (table_of t)) (composite_is_sum t) (c.descriptor.result ∷ []) _
    _ _ _ _ _ _ names (c.in_ok-begin_one_of.ensures.opened tells) (c.in_ok-fill_fields.ensures.read c.blank-value.ensures tells)
    (refused_here c.in_err-end_described.ensures.read c.in_err-end_described.ensures.place))

pub returns-clause-read : goal.returns-clause-read
returns-clause-read g c tells =
    let t = table_with g.C.Composite.names g.C.FieldList.list in
    let names = ap₂ (λ a b. (a, b) ∷ []) c.descriptor.ensures.code c.descriptor.ensures.name in
    read_whole (composite_members t) (λ s. MeansComposite (table_of t)) (composite_is_sum t) (c.descriptor.result ∷ []) _ _ _ _ _ _
    names (c.in_ok-begin_one_of.ensures.nesting tells) (c.in_ok-begin_one_of.ensures.opened tells) (c.in_ok-fill_fields.ensures.read c.blank-value.ensures tells)
    c.in_ok-end_described.ensures.read

pub returns-in_err-begin_one_of-clause-tries : goal.returns-in_err-begin_one_of-clause-tries
returns-in_err-begin_one_of-clause-tries g c =
    let p = err_from_is_err_and c.from_residual.result c.from_residual.ensures.1 in
    rw (p.1, p.2) (refused_more false _ c.args.decoder.now _ _ (taking_none _) c.in_err-begin_one_of.ensures.tries)

pub returns-in_err-fill_fields-clause-tries : goal.returns-in_err-fill_fields-clause-tries
returns-in_err-fill_fields-clause-tries g c =
    let p = err_from_is_err_and c.from_residual-in_err-fill_fields.result c.from_residual-in_err-fill_fields.ensures.1 in
    rw (p.1, p.2) (refused_behind _ _ c.args.decoder.now c.begin_one_of.new.self _ _ (taking_so _) c.in_ok-begin_one_of.ensures.tries c.in_err-fill_fields.ensures.tries)

pub returns-in_err-end_described-clause-tries : goal.returns-in_err-end_described-clause-tries
returns-in_err-end_described-clause-tries g c =
    let p = err_from_is_err_and c.from_residual-in_err-end_described.result c.from_residual-in_err-end_described.ensures.1 in
    rw (p.1, p.2) (refused_behind false _ c.args.decoder.now c.fill_fields.new.decoder _ _ (taking_none _)
    (began_then c.args.decoder.now c.begin_one_of.new.self c.fill_fields.new.decoder c.in_ok-begin_one_of.ensures.tries c.in_ok-fill_fields.ensures.tries) c.in_err-end_described.ensures.tries)
