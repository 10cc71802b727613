use Rattle.std.proofs.Common.{false}
use Rattle.std.proofs.lemmas.Result.{err_from_is_err_and}
use Rattle.amqp_sums.specs.Choices.{members_of, sum_of, takes_there}
use Rattle.amqp_codec.specs.laws.Members.{unopened, unread, unended, read_whole, within}
use Rattle.amqp_sums.proofs.SumMembers.{are_members}
use Rattle.amqp_codec.proofs.Tries.{taking_none, refused_more, refused_behind}
use Rattle.amqp_sums.proofs.sums.read_sum.Goals as goal
use Rattle.amqp_decoder.proofs.Places.{refused_here}

pub returns-in_err-place-clause-read : goal.returns-in_err-place-clause-read
returns-in_err-place-clause-read g c tells =
    let s = g.S.Sum.sum in
    let ms = c.descriptors.result.now in
    let names = c.descriptors.ensures in
    let p = err_from_is_err_and c.from_residual.result c.from_residual.ensures.1 in
    rw (p.1, p.2)
    (unopened (members_of s.choices) (sum_of s).means (are_members s) ms _ _ _ names (c.in_err-place.ensures.opened tells))

pub returns-in-Ok-end_described-clause-read : goal.returns-in-Ok-end_described-clause-read
returns-in-Ok-end_described-clause-read g c tells =
    let s = g.S.Sum.sum in
    let ms = c.descriptors.result.now in
    let names = c.descriptors.ensures in
    let opened = c.in_ok-place.ensures.opened tells in
    let few = within (members_of s.choices) (sum_of s).means (are_members s) ms _ _ _ names opened in
    let read = c.in-Ok.ensures.read few tells in
    let nesting = c.in_ok-place.ensures.nesting tells in
    let ended = c.in-Ok-end_described.ensures.read in
    read_whole (members_of s.choices) (sum_of s).means (are_members s) ms _ _ _ _ _ _ names nesting opened read ended

pub returns-in-Err-end_described-clause-read : goal.returns-in-Err-end_described-clause-read
returns-in-Err-end_described-clause-read g c tells =
    let s = g.S.Sum.sum in
    let ms = c.descriptors.result.now in
    let names = c.descriptors.ensures in
    let opened = c.in_ok-place.ensures.opened tells in
    let few = within (members_of s.choices) (sum_of s).means (are_members s) ms _ _ _ names opened in
    let read = c.in-Ok.ensures.read few tells in
    unended (members_of s.choices) (sum_of s).means (are_members s) ms _ _ _ _ _ _ _ names opened read
    (refused_here c.in-Err-end_described.ensures.read c.in-Err-end_described.ensures.place)

pub returns-in-Err-clause-read : goal.returns-in-Err-clause-read
returns-in-Err-clause-read g c tells =
    let s = g.S.Sum.sum in
    let ms = c.descriptors.result.now in
    let names = c.descriptors.ensures in
    let opened = c.in_ok-place.ensures.opened tells in
    let few = within (members_of s.choices) (sum_of s).means (are_members s) ms _ _ _ names opened in
    unread (members_of s.choices) (sum_of s).means (are_members s) ms _ _ _ _ _ names opened (c.in-Err.ensures.read few tells)

pub returns-in_err-place-clause-tries : goal.returns-in_err-place-clause-tries
returns-in_err-place-clause-tries g c =
    let p = err_from_is_err_and c.from_residual.result c.from_residual.ensures.1 in
    rw (p.1, p.2)
    (refused_more false _ c.args.decoder.now _ _ (taking_none _) c.in_err-place.ensures.tries)

pub returns-in-Err-clause-tries : goal.returns-in-Err-clause-tries
returns-in-Err-clause-tries g c =
    refused_behind _ _ c.args.decoder.now c.begin_one_of.new.self _ _ (takes_there g.S.Sum.sum.choices c.in_ok-place.place)
    c.in_ok-place.ensures.tries c.in-Err.ensures.tries
