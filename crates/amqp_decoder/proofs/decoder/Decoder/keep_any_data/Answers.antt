use Rattle.std.proofs.lemmas.Result.{err_from_is_err_and}
use Rattle.amqp_model.specs.Constructors.{format}
use Rattle.amqp_decoder.proofs.ReadPrimitives.{ok_map, err_map}
use Rattle.amqp_decoder.proofs.KeptData.{fixed_stopped, behind_is, sized_kept, size_stopped, behind_stopped}
use Rattle.amqp_decoder.proofs.decoder.Decoder.keep_any_data.Goals as goal

pub returns-in-Fixed-clause-err : goal.returns-in-Fixed-clause-err
returns-in-Fixed-clause-err g c =
    λ told known. err_map _ _ _ (λ e h. fixed_stopped (format c.args.code) _ _ _ _ (c.in-Fixed.ensures known) h)
    (c.keep_next.ensures.err told)

pub returns-in_err-size-in-Sized-clause-err : goal.returns-in_err-size-in-Sized-clause-err
returns-in_err-size-in-Sized-clause-err g c = λ told known.
    let p = err_from_is_err_and c.from_residual.result c.from_residual.ensures.1 in
    rw (p.1, p.2) (size_stopped (format c.args.code) c.in-Sized.wide c.in-Sized.is_list _ _ _ (c.in-Sized.ensures known)
    (c.in_err-size-in-Sized.ensures.err told))

pub returns-in_ok-size-in-Sized-clause-ok : goal.returns-in_ok-size-in-Sized-clause-ok
returns-in_ok-size-in-Sized-clause-ok g c = λ told known.
    let is = c.in-Sized.ensures known in
    let own = behind_is (format c.args.code) c.in-Sized.wide c.in-Sized.is_list _ _ is c.content_len.ensures.empty
    c.content_len.ensures.other c.content_len.ensures.some in
    ok_map _ _ _ (λ x h. sized_kept (format c.args.code) c.in-Sized.wide c.in-Sized.is_list _ _ _ _ _ _ _ _ is
    c.in_ok-size-in-Sized.ensures.fits own (c.in_ok-size-in-Sized.ensures.ok told) h) (c.keep_next-in-Sized.ensures.ok told)

pub returns-in_ok-size-in-Sized-clause-err : goal.returns-in_ok-size-in-Sized-clause-err
returns-in_ok-size-in-Sized-clause-err g c = λ told known.
    let is = c.in-Sized.ensures known in
    let own = behind_is (format c.args.code) c.in-Sized.wide c.in-Sized.is_list _ _ is c.content_len.ensures.empty
    c.content_len.ensures.other c.content_len.ensures.some in
    err_map _ _ _ (λ e h. behind_stopped (format c.args.code) c.in-Sized.wide c.in-Sized.is_list _ _ _ _ _ _ _ _ is
    c.in_ok-size-in-Sized.ensures.fits own (c.in_ok-size-in-Sized.ensures.ok told) h) (c.keep_next-in-Sized.ensures.err told)
