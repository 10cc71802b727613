use Rattle.std.proofs.Common.{◌≡◌, false, sym, subst}
use Rattle.std.proofs.lemmas.Result.{err_from_is_err_and}
use Rattle.amqp_decoder.specs.State.{State}
use Rattle.amqp_decoder.proofs.Reserve.{shows_among}
use Rattle.amqp_decoder.proofs.TopLevel.{no_end, end_unknown}
use Rattle.amqp_decoder.proofs.decoder.Decoder.at_end.Goals as goal

pub look_next-requires : goal.look_next-requires
look_next-requires g c = λ told.
    let top = c.in_ok-check_top.ensures.read in
    shows_among g.R.ByteSource.reserve 1 c.check_top.new.self (subst (λ (st : State). st.failed.alone ≡ false) (sym top.kept) top.among)

pub returns-in_err-check_top-clause-read : goal.returns-in_err-check_top-clause-read
returns-in_err-check_top-clause-read g c = λ told.
    let p = err_from_is_err_and c.from_residual.result c.from_residual.ensures.1 in
    rw (p.1, p.2) (no_end _ _ _ c.in_err-check_top.ensures.read c.in_err-check_top.ensures.place)

pub returns-in_err-look_next-clause-read : goal.returns-in_err-look_next-clause-read
returns-in_err-look_next-clause-read g c = λ told.
    let p = err_from_is_err_and c.from_residual-in_err-look_next.result c.from_residual-in_err-look_next.ensures.1 in
    rw (p.1, p.2) (end_unknown _ _ _ _ c.in_ok-check_top.ensures.read c.in_err-look_next.ensures.err)
