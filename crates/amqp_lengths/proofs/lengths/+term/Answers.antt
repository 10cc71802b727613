use Rattle.std.proofs.Common.{rules, ◌≡◌, ◌<◌, ◌≤◌, ◌-◌, drop, length, sym, ap, subst, arith}
use Rattle.std.proofs.lemmas.List.{length-drop, length-take-le}
use Rattle.std.proofs.lemmas.Result.{err_from_is_err_and}
use Rattle.amqp_model.specs.Term.{list, map, array}
use Rattle.amqp_model.specs.Constructors.{format}
use Rattle.amqp_model.specs.Spelling.{HasWidthZero}
use Rattle.amqp_lengths.specs.Fronts.{IsFront}
use Rattle.amqp_lengths.specs.Pieces.{width_of, PrimitiveOf}
use Rattle.amqp_lengths.specs.declared.constructors.Constructor.{Constructor}
use Rattle.amqp_wire.specs.Containers.{container_of}
use Rattle.amqp_lengths.specs.Lengths.{levels_of, Constructs, Row, IsTerm, IsData, IsContainer, IsArray, HasElements}
use Rattle.amqp_lengths.proofs.Fronts.{tail_all}
use Rattle.amqp_lengths.proofs.Codes.{zero_at}
use Rattle.amqp_lengths.proofs.Terms.{constructs_known, term_found, term_once, data_once}
use Rattle.amqp_lengths.proofs.Rows.{begins_none, piece_more, begins_all, no_bytes}
use Rattle.amqp_lengths.proofs.Containers.{found_part, ok_part, ok_at, content_length, width_some}
use Rattle.amqp_lengths.proofs.Containers.{container_found}
use Rattle.amqp_lengths.proofs.Containers.{array_found, list_data, map_data, array_data, primitive_data}
use Rattle.amqp_lengths.proofs.Containers.{empty_data}
use Rattle.amqp_lengths.proofs.Elements.{elements_none, elements_bare, elements_found}
use Rattle.amqp_wire.specs.declared.error.Error.TheVariants.{Size, OddCount, ZeroWidthItems}
use Rattle.amqp_lengths.specs.Faults.{TermFault, DataFault, ContainerFault, ItemsFault, ArrayFault, ElementsFault, SharedFault}
use Rattle.amqp_lengths.specs.Faults.{term_constructor, term_nests, term_data, data_of_primitive, data_of_container, data_of_array, container_content}
use Rattle.amqp_lengths.specs.Faults.{container_deep, container_unpaired, array_content, elements_missing, elements_empty, elements_deep}
use Rattle.amqp_lengths.specs.Faults.{elements_data}
use Rattle.amqp_lengths.proofs.Faults.{behind_front, behind_content, behind_empty, err_map, placed, items_bad, items_left, shared_bad}
use Rattle.amqp_lengths.proofs.Faults.{shared_left, elements_left, elements_unreadable, container_left, array_left}
use Rattle.amqp_lengths.proofs.Places.{items_within, elements_within, items_length, room}
use Rattle.amqp_lengths.proofs.lengths.+term.Goals as goal

pub array_len-returns-clause-found : goal.array_len-returns-clause-found
array_len-returns-clause-found t c =
    array_found (width_of c.args.wide) c.args.nesting _ _ _ c.args.input.now c.in_ok-parts.ensures.found
    (ok_at _ c.check_elements-items.result _ c.check_elements-items.ensures.found c.in_ok-followed_by.ensures.found)

pub check_items-loop-done-init : goal.check_items-loop-done-init
check_items-loop-done-init t c = begins_none _ _ _

pub check_items-loop-done-preserved : goal.check_items-loop-done-preserved
check_items-loop-done-preserved t c =
    piece_more (IsTerm c.args.nesting) (term_once c.args.nesting) c.args.count c.args.content.now c.loop-done.done c.loop-done.len
    c.in_ok-len.field-0 c.walk_term.result c.loop-done-test.true c.loop-done.invariant c.walk_term.ensures.found
    c.in_ok-len.ensures.found

pub check_data-loop-done-init : goal.check_data-loop-done-init
check_data-loop-done-init t c = begins_none _ _ _

pub check_data-loop-done-preserved : goal.check_data-loop-done-preserved
check_data-loop-done-preserved t c =
    piece_more (IsData c.args.code c.args.nesting) (data_once c.args.code c.args.nesting) c.args.count c.args.content.now c.loop-done.done
    c.loop-done.len c.in_ok-len.field-0 c.data_len.result c.loop-done-test.true c.loop-done.invariant c.data_len.ensures.found
    c.in_ok-len.ensures.found

pub list_len-returns-clause-found : goal.list_len-returns-clause-found
list_len-returns-clause-found t c =
    let parts = c.in_ok-parts.parts in
    container_found (container_of c.args.container) (width_of c.args.wide) c.args.nesting c.in-Some.nesting parts.count parts.len parts.items.now
    c.args.input.now c.in_ok-parts.ensures.found (omega arith) (c.has_pairs.ensures.0 (search rules))
    (ok_at _ c.check_items-items.result _ c.check_items-items.ensures.found c.in_ok-followed_by.ensures.found)

pub data_len-returns-in-69-2-clause-found : goal.data_len-returns-in-69-2-clause-found
data_len-returns-in-69-2-clause-found t c = empty_data c.args.code c.args.nesting c.args.input.now c.in-69.is c.if-nesting-eq0.false

pub data_len-returns-in-192-clause-found : goal.data_len-returns-in-192-clause-found
data_len-returns-in-192-clause-found t c =
    found_part (IsContainer list 1 c.args.nesting) (IsData c.args.code c.args.nesting) c.args.input.now c.list_len.result
    (λ b. list_data c.args.code 1 c.args.nesting b (ap format c.in-192.is)) c.list_len.ensures.found

pub data_len-returns-in-208-clause-found : goal.data_len-returns-in-208-clause-found
data_len-returns-in-208-clause-found t c =
    found_part (IsContainer list 4 c.args.nesting) (IsData c.args.code c.args.nesting) c.args.input.now c.list_len-in-208.result
    (λ b. list_data c.args.code 4 c.args.nesting b (ap format c.in-208.is)) c.list_len-in-208.ensures.found

pub data_len-returns-in-193-clause-found : goal.data_len-returns-in-193-clause-found
data_len-returns-in-193-clause-found t c =
    found_part (IsContainer map 1 c.args.nesting) (IsData c.args.code c.args.nesting) c.args.input.now c.list_len-in-193.result
    (λ b. map_data c.args.code 1 c.args.nesting b (ap format c.in-193.is)) c.list_len-in-193.ensures.found

pub data_len-returns-in-209-clause-found : goal.data_len-returns-in-209-clause-found
data_len-returns-in-209-clause-found t c =
    found_part (IsContainer map 4 c.args.nesting) (IsData c.args.code c.args.nesting) c.args.input.now c.list_len-in-209.result
    (λ b. map_data c.args.code 4 c.args.nesting b (ap format c.in-209.is)) c.list_len-in-209.ensures.found

pub data_len-returns-in-224-clause-found : goal.data_len-returns-in-224-clause-found
data_len-returns-in-224-clause-found t c =
    found_part (IsArray 1 c.args.nesting) (IsData c.args.code c.args.nesting) c.args.input.now c.array_len.result
    (λ b. array_data c.args.code 1 c.args.nesting b (ap format c.in-224.is)) c.array_len.ensures.found

pub data_len-returns-in-240-clause-found : goal.data_len-returns-in-240-clause-found
data_len-returns-in-240-clause-found t c =
    found_part (IsArray 4 c.args.nesting) (IsData c.args.code c.args.nesting) c.args.input.now c.array_len-in-240.result
    (λ b. array_data c.args.code 4 c.args.nesting b (ap format c.in-240.is)) c.array_len-in-240.ensures.found

pub data_len-returns-in_default-clause-found : goal.data_len-returns-in_default-clause-found
data_len-returns-in_default-clause-found t c =
    found_part (PrimitiveOf c.args.code) (IsData c.args.code c.args.nesting) c.args.input.now c.primitive_len.result
    (primitive_data c.args.code c.args.nesting) c.primitive_len.ensures.found

pub check_elements-returns-then-count-eq0-clause-found : goal.check_elements-returns-then-count-eq0-clause-found
check_elements-returns-then-count-eq0-clause-found t c =
    let empty : length c.args.content.now ≡ 0 = grind arith in
    elements_none c.args.nesting c.args.count c.args.content.now (no_bytes c.args.content.now empty) c.if-count-eq0.true

pub check_elements-check_data-requires : goal.check_elements-check_data-requires
check_elements-check_data-requires t c =
    let s = c.in_ok-shared.shared in
    let found = ok_at (λ (x : Constructor). IsFront (Constructs x.descriptors x.code) c.args.content.now x.len) c.read_constructor.result s
    c.read_constructor.ensures.found c.in_ok-shared.ensures.found in (
      omega (arith, ap length (tail_all s.len c.args.content.now), length-drop s.len c.args.content.now),
      constructs_known s.descriptors s.code _ found.spelled,
    )

pub check_elements-returns-in-Some-clause-found : goal.check_elements-returns-in-Some-clause-found
check_elements-returns-in-Some-clause-found t c =
    let s = c.in_ok-shared.shared in
    let found = ok_at (λ (x : Constructor). IsFront (Constructs x.descriptors x.code) c.args.content.now x.len) c.read_constructor.result s
    c.read_constructor.ensures.found c.in_ok-shared.ensures.found in
    let m : c.in-Some.nesting ≡ c.args.nesting - levels_of s.descriptors s.code = omega (arith, c.in-Some.ensures) in
    let few : levels_of s.descriptors s.code ≤ c.args.nesting = omega (arith, c.in-Some.ensures) in
    let wide : HasWidthZero (format s.code) → ⊥ = λ z. let x = c.has_width_zero.ensures.1 ((zero_at s.code).0 z) in absurd (cc) in
    ok_part _ (HasElements c.args.nesting c.args.count c.args.content.now) c.check_data.result
    (λ r. elements_found c.args.nesting s.descriptors s.code c.args.count s.len c.args.content.now found.spelled wide
    c.if-count-eq0-2.false few
    (subst (λ j. Row (IsData s.code j) c.args.count (drop s.len c.args.content.now)) m
    (subst (Row (IsData s.code c.in-Some.nesting) c.args.count) (tail_all s.len c.args.content.now) r)))
    c.check_data.ensures.found

pub array_len-returns-in_err-parts-clause-fault : goal.array_len-returns-in_err-parts-clause-fault
array_len-returns-in_err-parts-clause-fault t c own is =
    let p = err_from_is_err_and c.from_residual.result c.from_residual.ensures.1 in
    rw (p.1, p.2) (subst (ArrayFault c.args.deep own (width_of c.args.wide) c.args.nesting c.args.input.now c.in_err-parts.field-0.0) (sym is)
    (array_content own (width_of c.args.wide) c.args.nesting c.args.input.now _ c.in_err-parts.ensures.fault))

pub check_items-returns-in_err-len-clause-fault : goal.check_items-returns-in_err-len-clause-fault
check_items-returns-in_err-len-clause-fault t c =
    let p = err_from_is_err_and c.from_residual.result c.from_residual.ensures.1 in
    rw (p.1, p.2) (items_bad c.args.nesting c.args.count c.args.content.now c.loop-done.done c.loop-done.len _ c.walk_term.result _
    c.loop-done-test.true c.loop-done.invariant c.walk_term.ensures.fault c.in_err-len.ensures.fault)

pub check_data-returns-in_err-len-clause-fault : goal.check_data-returns-in_err-len-clause-fault
check_data-returns-in_err-len-clause-fault t c =
    let p = err_from_is_err_and c.from_residual.result c.from_residual.ensures.1 in
    rw (p.1, p.2) (shared_bad c.args.code c.args.nesting c.args.count c.args.content.now c.loop-done.done c.loop-done.len _ c.data_len.result
    _ c.loop-done-test.true c.loop-done.invariant (c.data_len.ensures.fault 0 (omega arith)) c.in_err-len.ensures.fault)

pub list_len-returns-in_err-parts-clause-fault : goal.list_len-returns-in_err-parts-clause-fault
list_len-returns-in_err-parts-clause-fault t c own is =
    let p = err_from_is_err_and c.from_residual.result c.from_residual.ensures.1 in
    let kind = container_of c.args.container in
    rw (p.1, p.2)
    (subst (ContainerFault c.args.deep own kind (width_of c.args.wide) c.args.nesting c.args.input.now c.in_err-parts.field-0.0) (sym is)
    (container_content own kind (width_of c.args.wide) c.args.nesting c.args.input.now _ c.in_err-parts.ensures.fault))

pub list_len-returns-in_default-clause-fault : goal.list_len-returns-in_default-clause-fault
list_len-returns-in_default-clause-fault t c own is =
    let parts = c.in_ok-parts.parts in
    let kind = container_of c.args.container in
    subst (ContainerFault c.args.deep own kind (width_of c.args.wide) c.args.nesting c.args.input.now c.args.deep) (sym is)
    (container_deep own kind (width_of c.args.wide) c.args.nesting c.args.input.now _
    (behind_content kind (width_of c.args.wide) parts.count parts.len parts.items.now c.args.input.now c.in_ok-parts.ensures.found)
    (omega arith))

pub list_len-returns-then-not-has_pairs-clause-fault : goal.list_len-returns-then-not-has_pairs-clause-fault
list_len-returns-then-not-has_pairs-clause-fault t c own is =
    let kind = container_of c.args.container in
    subst (ContainerFault c.args.deep own kind (width_of c.args.wide) c.args.nesting c.args.input.now OddCount) (sym is)
    (container_unpaired own kind (width_of c.args.wide) c.args.nesting c.args.input.now _ _ _
    (behind_front _ _ _ c.in_ok-parts.ensures.found) (λ h. let e = c.has_pairs.ensures.1 h in absurd (cc)))

pub data_len-returns-in-69-clause-fault : goal.data_len-returns-in-69-clause-fault
data_len-returns-in-69-clause-fault t c own is =
    subst (DataFault c.args.deep own c.args.code c.args.nesting c.args.input.now c.args.deep) (sym is)
    (data_of_container own c.args.code c.args.nesting c.args.input.now _ _ list 0 (ap format c.in-69.is) (λ e. cc)
    (container_deep own list 0 c.args.nesting c.args.input.now _ (behind_empty c.args.input.now) c.if-nesting-eq0.true))

pub data_len-returns-in-192-clause-fault : goal.data_len-returns-in-192-clause-fault
data_len-returns-in-192-clause-fault t c own is =
    err_map _ _ c.list_len.result
    (λ e h. data_of_container own c.args.code c.args.nesting c.args.input.now e _ list 1 (ap format c.in-192.is) (λ k. cc) h)
    (c.list_len.ensures.fault own is)

pub data_len-returns-in-208-clause-fault : goal.data_len-returns-in-208-clause-fault
data_len-returns-in-208-clause-fault t c own is =
    err_map _ _ c.list_len-in-208.result
    (λ e h. data_of_container own c.args.code c.args.nesting c.args.input.now e _ list 4 (ap format c.in-208.is) (λ k. cc) h)
    (c.list_len-in-208.ensures.fault own is)

pub data_len-returns-in-193-clause-fault : goal.data_len-returns-in-193-clause-fault
data_len-returns-in-193-clause-fault t c own is =
    err_map _ _ c.list_len-in-193.result
    (λ e h. data_of_container own c.args.code c.args.nesting c.args.input.now e _ map 1 (ap format c.in-193.is) (λ k. cc) h)
    (c.list_len-in-193.ensures.fault own is)

pub data_len-returns-in-209-clause-fault : goal.data_len-returns-in-209-clause-fault
data_len-returns-in-209-clause-fault t c own is =
    err_map _ _ c.list_len-in-209.result
    (λ e h. data_of_container own c.args.code c.args.nesting c.args.input.now e _ map 4 (ap format c.in-209.is) (λ k. cc) h)
    (c.list_len-in-209.ensures.fault own is)

pub data_len-returns-in-224-clause-fault : goal.data_len-returns-in-224-clause-fault
data_len-returns-in-224-clause-fault t c own is =
    err_map _ _ c.array_len.result
    (λ e h. data_of_array own c.args.code c.args.nesting c.args.input.now e _ 1 (ap format c.in-224.is) h)
    (c.array_len.ensures.fault own is)

pub data_len-returns-in-240-clause-fault : goal.data_len-returns-in-240-clause-fault
data_len-returns-in-240-clause-fault t c own is =
    err_map _ _ c.array_len-in-240.result
    (λ e h. data_of_array own c.args.code c.args.nesting c.args.input.now e _ 4 (ap format c.in-240.is) h)
    (c.array_len-in-240.ensures.fault own is)

pub data_len-returns-in_default-clause-fault : goal.data_len-returns-in_default-clause-fault
data_len-returns-in_default-clause-fault t c own is =
    err_map _ _ c.primitive_len.result
    (λ e h. subst (DataFault c.args.deep own c.args.code c.args.nesting c.args.input.now e) (sym is)
    (data_of_primitive own c.args.code c.args.nesting c.args.input.now e h)) c.primitive_len.ensures.fault

pub check_elements-returns-else-count-eq0-clause-fault : goal.check_elements-returns-else-count-eq0-clause-fault
check_elements-returns-else-count-eq0-clause-fault t c =
    let empty : length c.args.content.now ≡ 0 = grind arith in
    subst (ElementsFault c.args.deep c.args.nesting c.args.count c.args.content.now Size) (sym empty)
    (elements_missing c.args.nesting c.args.count c.args.content.now (no_bytes c.args.content.now empty) (omega arith))

pub check_elements-returns-in_err-shared-clause-fault : goal.check_elements-returns-in_err-shared-clause-fault
check_elements-returns-in_err-shared-clause-fault t c =
    let p = err_from_is_err_and c.from_residual.result c.from_residual.ensures.1 in
    let some : 0 < length c.args.content.now = grind arith in
    rw (p.1, p.2) (elements_unreadable c.args.nesting c.args.count c.args.content.now _ c.read_constructor.result _ some
    c.read_constructor.ensures.fault c.in_err-shared.ensures.fault)

pub check_elements-returns-then-has_width_zero-clause-fault : goal.check_elements-returns-then-has_width_zero-clause-fault
check_elements-returns-then-has_width_zero-clause-fault t c =
    let s = c.in_ok-shared.shared in
    let found = ok_at (λ (x : Constructor). IsFront (Constructs x.descriptors x.code) c.args.content.now x.len) c.read_constructor.result s
    c.read_constructor.ensures.found c.in_ok-shared.ensures.found in
    let kept = ok_at (λ (x : Constructor). c.read_constructor.new.left ≡ length c.args.content.now) c.read_constructor.result s
    c.read_constructor.ensures.kept c.in_ok-shared.ensures.found in
    subst (ElementsFault c.args.deep c.args.nesting c.args.count c.args.content.now ZeroWidthItems) (sym kept)
    (elements_empty c.args.nesting c.args.count c.args.content.now s.descriptors s.code _ (behind_front _ _ _ found) (omega arith)
    ((zero_at s.code).1 (c.has_width_zero.ensures.0 c.if-has_width_zero.true) (constructs_known s.descriptors s.code _ found.spelled)))

pub check_elements-returns-in-Some-clause-fault : goal.check_elements-returns-in-Some-clause-fault
check_elements-returns-in-Some-clause-fault t c =
    let s = c.in_ok-shared.shared in
    let found = ok_at (λ (x : Constructor). IsFront (Constructs x.descriptors x.code) c.args.content.now x.len) c.read_constructor.result s
    c.read_constructor.ensures.found c.in_ok-shared.ensures.found in
    let some : 0 < c.args.count = omega arith in
    err_map _ _ c.check_data.result
    (λ e h. elements_data c.args.nesting c.args.count c.args.content.now e s.descriptors s.code c.in-Some.nesting _ _
    (behind_front _ _ _ found) some c.in-Some.ensures
    (subst (λ l. SharedFault c.args.deep s.code c.in-Some.nesting c.args.count l e c.check_data.new.left) (tail_all s.len c.args.content.now) h))
    c.check_data.ensures.fault

pub check_elements-returns-in-None-clause-fault : goal.check_elements-returns-in-None-clause-fault
check_elements-returns-in-None-clause-fault t c =
    let s = c.in_ok-shared.shared in
    let found = ok_at (λ (x : Constructor). IsFront (Constructs x.descriptors x.code) c.args.content.now x.len) c.read_constructor.result s
    c.read_constructor.ensures.found c.in_ok-shared.ensures.found in
    let kept = ok_at (λ (x : Constructor). c.read_constructor.new.left ≡ length c.args.content.now) c.read_constructor.result s
    c.read_constructor.ensures.kept c.in_ok-shared.ensures.found in
    subst (ElementsFault c.args.deep c.args.nesting c.args.count c.args.content.now c.args.deep) (sym kept)
    (elements_deep c.args.nesting c.args.count c.args.content.now s.descriptors s.code _ (behind_front _ _ _ found)
    (omega arith) c.in-None.ensures)

pub array_len-check_elements-items-requires : goal.array_len-check_elements-items-requires
array_len-check_elements-items-requires t c =
    let less = content_length array (width_of c.args.wide) _ _ _ c.args.input.now (width_some c.args.wide) c.in_ok-parts.ensures.found in
    (omega (arith, less), tt)

pub array_len-followed_by-requires : goal.array_len-followed_by-requires
array_len-followed_by-requires t c =
    let parts = c.in_ok-parts.parts in
    let front = c.in_ok-parts.ensures.found in
    let held = items_length array (width_of c.args.wide) parts.count parts.items.now _ front.spelled in
    let few = front.within in
    room (λ e. ElementsFault c.args.deep c.args.nesting parts.count parts.items.now e c.check_elements-items.new.left)
    c.check_elements-items.new.left (length parts.items.now) (length c.args.input.now - parts.len) c.check_elements-items.result
    (λ e f. elements_within c.args.nesting parts.count parts.items.now e c.check_elements-items.new.left f)
    (omega (arith, held, few, length-take-le parts.len c.args.input.now few)) c.check_elements-items.ensures.fault

pub array_len-returns-in_err-followed_by-clause-fault : goal.array_len-returns-in_err-followed_by-clause-fault
array_len-returns-in_err-followed_by-clause-fault t c own is =
    let p = err_from_is_err_and c.from_residual-in_err-followed_by.result c.from_residual-in_err-followed_by.ensures.1 in
    rw (p.1, p.2) (array_left own (width_of c.args.wide) c.args.nesting _ _ _ c.args.input.now _ _ c.check_elements-items.result _
    c.in_ok-parts.ensures.found c.check_elements-items.ensures.fault c.in_err-followed_by.ensures.fault)

pub check_items-returns-clause-found : goal.check_items-returns-clause-found
check_items-returns-clause-found t c =
    ok_part _ _ c.check_end.result
    (λ all. begins_all (IsTerm c.args.nesting) c.args.count c.args.content.now c.loop-done.done c.loop-done.len c.loop-done-test.false
    c.loop-done.invariant all) c.check_end.ensures.all

pub check_items-returns-clause-fault : goal.check_items-returns-clause-fault
check_items-returns-clause-fault t c =
    err_map _ _ c.check_end.result
    (λ e f. items_left c.args.nesting c.args.count c.args.content.now c.loop-done.done c.loop-done.len _ e (omega arith)
    c.loop-done.invariant f) c.check_end.ensures.left

pub check_data-returns-clause-found : goal.check_data-returns-clause-found
check_data-returns-clause-found t c =
    ok_part _ _ c.check_end.result
    (λ all. begins_all (IsData c.args.code c.args.nesting) c.args.count c.args.content.now c.loop-done.done c.loop-done.len
    c.loop-done-test.false c.loop-done.invariant all) c.check_end.ensures.all

pub check_data-returns-clause-fault : goal.check_data-returns-clause-fault
check_data-returns-clause-fault t c =
    err_map _ _ c.check_end.result
    (λ e f. shared_left c.args.code c.args.nesting c.args.count c.args.content.now c.loop-done.done c.loop-done.len _ e (omega arith)
    c.loop-done.invariant f) c.check_end.ensures.left

pub list_len-check_items-items-requires : goal.list_len-check_items-items-requires
list_len-check_items-items-requires t c =
    let parts = c.in_ok-parts.parts in
    let less = content_length (container_of c.args.container) (width_of c.args.wide) parts.count parts.len parts.items.now c.args.input.now
    (width_some c.args.wide) c.in_ok-parts.ensures.found in
    (omega (arith, less), tt)

pub list_len-followed_by-requires : goal.list_len-followed_by-requires
list_len-followed_by-requires t c =
    let parts = c.in_ok-parts.parts in
    let front = c.in_ok-parts.ensures.found in
    let held = items_length (container_of c.args.container) (width_of c.args.wide) parts.count parts.items.now _ front.spelled in
    let few = front.within in
    room (λ e. ItemsFault c.args.deep c.in-Some.nesting parts.count parts.items.now e c.check_items-items.new.left)
    c.check_items-items.new.left (length parts.items.now) (length c.args.input.now - parts.len) c.check_items-items.result
    (λ e f. items_within c.in-Some.nesting parts.count parts.items.now e c.check_items-items.new.left f)
    (omega (arith, held, few, length-take-le parts.len c.args.input.now few)) c.check_items-items.ensures.fault

pub list_len-returns-in_err-followed_by-clause-fault : goal.list_len-returns-in_err-followed_by-clause-fault
list_len-returns-in_err-followed_by-clause-fault t c own is =
    let p = err_from_is_err_and c.from_residual-in_err-followed_by.result c.from_residual-in_err-followed_by.ensures.1 in
    rw (p.1, p.2) (container_left own (container_of c.args.container) (width_of c.args.wide) c.args.nesting c.in-Some.nesting _ _ _ c.args.input.now
    _ _ c.check_items-items.result _ c.in_ok-parts.ensures.found (omega arith) c.check_items-items.ensures.fault
    c.in_err-followed_by.ensures.fault)

pub check_elements-returns-then-count-eq0-2-clause-found : goal.check_elements-returns-then-count-eq0-2-clause-found
check_elements-returns-then-count-eq0-2-clause-found t c =
    let s = c.in_ok-shared.shared in
    let found = ok_at (λ (x : Constructor). IsFront (Constructs x.descriptors x.code) c.args.content.now x.len) c.read_constructor.result s
    c.read_constructor.ensures.found c.in_ok-shared.ensures.found in
    ok_part _ _ c.check_end.result
    (λ all. subst (λ j. HasElements c.args.nesting j c.args.content.now) (sym c.if-count-eq0-2.true)
    (elements_bare c.args.nesting s.descriptors s.code s.len c.args.content.now found.spelled
    (no_bytes (drop s.len c.args.content.now) (omega (arith, all, length-drop s.len c.args.content.now))))) c.check_end.ensures.all

pub check_elements-returns-then-count-eq0-2-clause-fault : goal.check_elements-returns-then-count-eq0-2-clause-fault
check_elements-returns-then-count-eq0-2-clause-fault t c =
    let s = c.in_ok-shared.shared in
    let found = ok_at (λ (x : Constructor). IsFront (Constructs x.descriptors x.code) c.args.content.now x.len) c.read_constructor.result s
    c.read_constructor.ensures.found c.in_ok-shared.ensures.found in
    err_map _ _ c.check_end.result
    (λ e f. elements_left c.args.nesting c.args.count s.descriptors s.code s.len _ c.args.content.now e found c.if-count-eq0-2.true f)
    c.check_end.ensures.left

pub walk_term-data_len-requires : goal.walk_term-data_len-requires
walk_term-data_len-requires t c =
    let s = c.in_ok-shared.shared in (
      omega (arith, ap length (tail_all s.len c.args.input.now), length-drop s.len c.args.input.now),
      constructs_known s.descriptors s.code _ c.in_ok-shared.ensures.found.spelled,
    )

pub walk_term-returns-in_err-shared-clause-fault : goal.walk_term-returns-in_err-shared-clause-fault
walk_term-returns-in_err-shared-clause-fault t c =
    let p = err_from_is_err_and c.from_residual.result c.from_residual.ensures.1 in
    rw (p.1, p.2) (term_constructor c.args.nesting c.args.input.now _ _ c.in_err-shared.ensures.fault)

pub walk_term-returns-in_default-clause-fault : goal.walk_term-returns-in_default-clause-fault
walk_term-returns-in_default-clause-fault t c =
    let s = c.in_ok-shared.shared in
    placed (TermFault c.args.deep c.args.nesting c.args.input.now) c.refuse.ensures.error c.refuse.ensures.left
    (term_nests c.args.nesting c.args.input.now s.descriptors s.code _ (behind_front _ _ _ c.in_ok-shared.ensures.found) (omega arith))

pub walk_term-returns-in_err-data_len-clause-fault : goal.walk_term-returns-in_err-data_len-clause-fault
walk_term-returns-in_err-data_len-clause-fault t c =
    let p = err_from_is_err_and c.from_residual-in_err-data_len.result c.from_residual-in_err-data_len.ensures.1 in
    let s = c.in_ok-shared.shared in
    rw (p.1, p.2) (term_data c.args.nesting c.args.input.now _ s.descriptors s.code c.in-Some.nesting _ _
    (behind_front _ _ _ c.in_ok-shared.ensures.found) (omega arith)
    (subst (λ l. DataFault c.args.deep 1 s.code c.in-Some.nesting l c.in_err-data_len.field-0.0 c.data_len.new.left) (tail_all s.len c.args.input.now)
    (c.in_err-data_len.ensures.fault 1 (omega arith))))

pub walk_term-returns-clause-found : goal.walk_term-returns-clause-found
walk_term-returns-clause-found t c =
    let s = c.in_ok-shared.shared in
    term_found c.args.nesting s.descriptors c.in-Some.nesting s.code s.len c.in_ok-data_len.field-0 c.args.input.now
    c.in_ok-shared.ensures.found (omega arith)
    (subst (λ l. IsFront (IsData s.code c.in-Some.nesting) l c.in_ok-data_len.field-0) (tail_all s.len c.args.input.now)
    c.in_ok-data_len.ensures.found)
