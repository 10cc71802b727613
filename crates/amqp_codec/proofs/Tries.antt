-- What calls that follow one another say of their errors, whatever the source tells.
use Rattle.std.proofs.Common.{◌≡◌, inl, inr, ℕ, zero, suc, Bool, true, false, Some, None, Result, Ok, Err, IfOk, IfErr, refl, ap, ◌∙◌, sym, subst}
use Rattle.amqp_wire.specs.declared.error.Error.{Error}
use Rattle.amqp_wire.specs.declared.error.Error.TheVariants.{Limit}
use Rattle.amqp_decoder.specs.State.{State}
use Rattle.amqp_decoder.specs.Steps.{unsized, IsOutside, RefusesBy, Began, Refused, Tries, Passed}
use Rattle.amqp_decoder.specs.Misspelled.{IsMisspelling}
use Rattle.amqp_decoder.proofs.NotOutside.{read_is_outside}
use Rattle.amqp_model.specs.declared.tables.FieldRule.{FieldRule}
use Rattle.amqp_codec.specs.FieldReading.{absence}
use Rattle.amqp_codec.specs.laws.FieldReading.{absence_not_outside}
use Rattle.amqp_codec.specs.laws.Misspelling.{absence_spelled}
use Rattle.amqp_codec.specs.Fields.{Fields, none, field, take_memory, takes_at}
use Rattle.amqp_codec.specs.laws.Fields.{either_first, either_second}

-- what takes no memory is of what takes some, and of what takes none
pub taking_none : (more : Bool) → false ≡ true → more ≡ true
taking_none more h = absurd (cc)

pub taking_some : (takes : Bool) → takes ≡ true → true ≡ true
taking_some takes h = refl

pub taking_so : (takes : Bool) → takes ≡ true → takes ≡ true
taking_so takes h = h

-- what takes memory for one field does for all of them
pub taking_at : {V : Type 0} (fs : Fields V) (i : ℕ) → takes_at fs i ≡ true → take_memory fs ≡ true
taking_at none i h = absurd (cc)
taking_at (field get f fs) zero h = either_first f.takes_memory (take_memory fs) h
taking_at (field get f fs) (suc i) h = either_second f.takes_memory (take_memory fs) (taking_at fs i h)

pub began_then : (a b c : State) → Began a b → Began b c → Began a c
began_then a b c h k = (h.0, k.1, k.2 ∙ h.2)

pub began_passed : (a b c : State) → Began a b → Passed b c → Began a c
began_passed a b c h k = (h.0, k.0.0 ∙ h.1, k.0.1 ∙ h.2)

pub passed_began : (a b : State) → Began a b → Passed a b
passed_began a b h = ((h.1 ∙ sym h.0, h.2), λ d x. absurd (let y = h.0 in cc))

pub passed_then : (a b c : State) → Passed a b → Began b c → Passed a c
passed_then a b c h k = (
  (k.1 ∙ sym k.0 ∙ h.0.0, k.2 ∙ h.0.1),
  λ d x. absurd (let y = k.0 in let z = h.0.0 in cc),
)

pub refused_more : (takes more : Bool) (a : State) (e : Error) (c : State) → (takes ≡ true → more ≡ true) → Refused takes a e c
    → Refused more a e c
refused_more takes more a e c wide r = (r.0, λ going. (let f = r.1 going in (f.0, f.1, λ m. wide (f.2 m), f.3, f.4)))

-- the refused call came after others
pub refused_later : (takes more : Bool) (a b : State) (e : Error) (c : State) → (takes ≡ true → more ≡ true) → Passed a b
    → Refused takes b e c → Refused more a e c
refused_later takes more a b e c wide passed r = (
  λ d x. (let same = passed.1 d x in let k = r.0 d (ap (λ (s : State). s.error) same ∙ x) in (k.0, k.1 ∙ same)),
  λ going. (
      let f = r.1 (passed.0.0 ∙ going) in
      (f.0, elim f.1 [ inl s ↦ inl (s ∙ passed.0.1) | inr i ↦ inr i ], λ m. wide (f.2 m), f.3, f.4)
      ),
)

pub refused_behind : (takes more : Bool) (a b : State) (e : Error) (c : State) → (takes ≡ true → more ≡ true) → Began a b
    → Refused takes b e c → Refused more a e c
refused_behind takes more a b e c wide h r = refused_later takes more a b e c wide (passed_began a b h) r

pub tries_more : {A : Type 0} (takes more : Bool) (a : State) (r : Result A Error) (c : State) → (takes ≡ true → more ≡ true)
    → Tries takes a r c → Tries more a r c
tries_more takes more a (Ok v) c wide h = h
tries_more takes more a (Err e) c wide h = refused_more takes more a e c wide h

pub tries_behind : {A : Type 0} (takes more : Bool) (a b : State) (r : Result A Error) (c : State) → (takes ≡ true → more ≡ true)
    → Began a b → Tries takes b r c → Tries more a r c
tries_behind takes more a b (Ok v) c wide h k = began_then a b c h k
tries_behind takes more a b (Err e) c wide h k = refused_behind takes more a b e c wide h k

-- an error that is neither want of memory nor the source's nor a limit's was kept behind other calls
pub refused_by : (takes : Bool) (a b : State) (error e : Error) (c : State) → (IsOutside error → ⊥) → (error ≡ Limit → ⊥) → Began a b
    → RefusesBy error b e c → Refused takes a e c
refused_by takes a b error e c plain other h r =
    let k = r h.1 in
    let out = λ (o : IsOutside e). plain (subst IsOutside k.0 o) in (
      λ d x. absurd (let y = h.0 in cc),
      λ going. (
        ap (λ (s : State). s.error) k.1 ∙ ap Some (sym k.0),
        inl (ap (λ (s : State). unsized s.failed) k.1 ∙ h.2),
        λ m. absurd (out (subst IsOutside (sym m) tt)),
        λ i. absurd (out (read_is_outside e i)),
        λ l. absurd (other (sym k.0 ∙ l)),
      ),
    )

-- a field was absent
pub absent_refused : (takes : Bool) (a b : State) (k : FieldRule) (error e : Error) (c : State) → absence k ≡ Some error → Began a b
    → RefusesBy error b e c → Refused takes a e c
absent_refused takes a b k error e c is =
    refused_by takes a b error e c (λ o. absence_not_outside o k is) (λ l. absence_spelled k error is (subst IsMisspelling (sym l) tt))

-- a field that was null may be so, or not
pub null_tried : (takes : Bool) (a b : State) (k : FieldRule) (r : Result (Unit {0}) Error) (c : State) → Began a b
    → IfOk r (λ _. (absence k ≡ None) × (c ≡ b)) → IfErr r (λ e. (error : Error) × (absence k ≡ Some error) × RefusesBy error b e c)
    → Tries takes a r c
null_tried takes a b k (Ok u) c h (fits, same) e = subst (Began a) (sym same) h
null_tried takes a b k (Err e) c h o (error, is, refused) = absent_refused takes a b k error e c is h refused
