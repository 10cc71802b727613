use Rattle.std.proofs.Common.{◌≡◌, true, nat_eq, refl, sym, subst}
use Rattle.std.proofs.lemmas.Cmp.{nat_list_eq_equiv}
use Rattle.std.proofs.lemmas.List.Elements.{same_from_all_zip}
use Rattle.std.specs.Cmp.Lexicographic.{pointwise}
use Rattle.amqp_bodies.specs.declared.body.Body.TheVariants.{Value, Data, Sequence, Empty}
use Rattle.amqp_bodies.proofs.laws.copies_are_equal.Goals as goal

pub returns : goal.returns
returns g c same (Value v) (Value w) h = c.copies_are_equal.ensures.value same v w h
returns g c same (Data v) (Data w) h = c.copies_are_equal-3.ensures (λ x y k.
    (let same_bytes = same_from_all_zip _ x.0.0.items y.0.0.items k.0 (λ a b e. e) in
    subst (λ bytes. pointwise nat_eq x.0.0.items bytes ≡ true) (sym same_bytes) (nat_list_eq_equiv.refl x.0.0.items))) v w h
returns g c same (Sequence v) (Sequence w) h = c.copies_are_equal-2.ensures (c.copies_are_equal.ensures.sequence same) v w h
returns g c same Empty Empty h = refl
returns g c same (Value v) (Data w) h = absurd h
returns g c same (Value v) (Sequence w) h = absurd h
returns g c same (Value v) Empty h = absurd h
returns g c same (Data v) (Value w) h = absurd h
returns g c same (Data v) (Sequence w) h = absurd h
returns g c same (Data v) Empty h = absurd h
returns g c same (Sequence v) (Value w) h = absurd h
returns g c same (Sequence v) (Data w) h = absurd h
returns g c same (Sequence v) Empty h = absurd h
returns g c same Empty (Value w) h = absurd h
returns g c same Empty (Data w) h = absurd h
returns g c same Empty (Sequence w) h = absurd h
