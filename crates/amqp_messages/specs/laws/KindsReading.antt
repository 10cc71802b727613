-- Laws of groups of some kinds, as they are read.
use Rattle.std.proofs.Common.{◌≡◌, ◌⊎◌, inl, inr, ℕ, ◌≤◌, Bool, true, false, ◌||◌, eqb, cond, List, [], ◌∷◌, length, refl, sym, ◌∙◌, subst, arith}
use Rattle.std.proofs.lemmas.Bool.{eqb-true}
use Rattle.amqp_model.specs.laws.Option.{option_sym, option_trans}
use Rattle.amqp_decoder.specs.State.{Source, State}
use Rattle.amqp_decoder.specs.Steps.{IsOutside}
use Rattle.amqp_decoder.specs.OtherSource.{elsewhere}
use Rattle.amqp_decoder.specs.Places.{Located}
use Rattle.amqp_codec.specs.Reading.{looking, AreAlike}
use Rattle.amqp_batches.specs.laws.State.{any_taken}
use Rattle.amqp_batches.specs.Walk.{IsAtTop, Leaves}
use Rattle.amqp_messages.specs.Kinds.{Kinds, none, kind, is_in, size, Fields, nothing, Group, behind, behind_code, put}
use Rattle.amqp_messages.specs.KindsReading.{has, AreNotIn, AreApart, Readings, Reads, KindFault, SameGroup, SameFields, weight}

pub or_true : (a b : Bool) → a ≡ true → a || b ≡ true
or_true true b h = refl
or_true false b h = absurd (cc)

pub or_other : (a b : Bool) → b ≡ true → a || b ≡ true
or_other true b h = refl
or_other false b h = h

picks : (b : Bool) (m n : ℕ) → b ≡ true → cond b m n ≡ m
picks true m n h = refl
picks false m n h = absurd (cc)

picks_other : (b : Bool) (m n : ℕ) → (b ≡ true → ⊥) → cond b m n ≡ n
picks_other false m n h = refl
picks_other true m n h = absurd (h refl)

eqb_or : (c d : ℕ) (b t : Bool) → eqb c d ≡ t → eqb c d || b ≡ true → (c ≡ d) ⊎ (b ≡ true)
eqb_or c d b true e h = inl (eqb-true c d e)
eqb_or c d b false e h = inr (subst (λ t. t || b ≡ true) e h)

-- no code of one kind is of another
pub not_in : (ks : Kinds) (cs : List ℕ) (c : ℕ) → AreNotIn ks cs → is_in cs c ≡ true → has ks c ≡ true → ⊥
not_in ks [] c a i h = absurd (cc)
not_in ks (d ∷ ds) c a i h = by (eqb_or c d (is_in ds c) (eqb c d) refl i) (λ j. not_in ks ds c a.1 j h)
  where
    by : (c ≡ d) ⊎ (is_in ds c ≡ true) → (is_in ds c ≡ true → ⊥) → ⊥
    by (inl e) others = let n : has ks c ≡ false = subst (λ x. has ks x ≡ false) (sym e) a.0 in absurd (cc)
    by (inr j) others = others j

-- what is read has the code of its kind
pub reads_has : (js : Kinds) (rs : Readings js) (c : ℕ) (st : State) (g : Group js) (b : State) → Reads js rs c st g b → has js c ≡ true
reads_has none rs c st g b h = absurd h
reads_has (kind T codes js) rs c st (inl g) b h = or_true (is_in codes c) (has js c) h.0
reads_has (kind T codes js) rs c st (inr g) b h = or_other (is_in codes c) (has js c) (reads_has js rs.1 c st g b h)

pub reads_behind : (ks : Kinds) (rs : Readings ks) → AreApart ks → (c : ℕ) (st : State) (g : Group ks) (b : State) → Reads ks rs c st g b
    → behind_code ks c ≡ behind ks g
reads_behind none rs apart c st g b h = absurd h
reads_behind (kind T codes ks) rs apart c st (inl g) b h = picks (is_in codes c) (size ks) (behind_code ks c) h.0
reads_behind (kind T codes ks) rs apart c st (inr g) b h =
    picks_other (is_in codes c) (size ks) (behind_code ks c) (λ i. not_in ks codes c apart.0 i (reads_has ks rs.1 c st g b h))
    ∙ reads_behind ks rs.1 apart.1 c st g b h

pub reads_one : (ks : Kinds) (rs : Readings ks) → AreApart ks → (c : ℕ) (st : State) (g h : Group ks) (a b : State) → Reads ks rs c st g a
    → Reads ks rs c st h b → SameGroup ks rs g h × AreAlike a b
reads_one none rs apart c st g h a b x y = absurd x
reads_one (kind T codes ks) rs apart c st (inl g) (inl h) a b x y = rs.0.one st g h a b x.1 y.1
reads_one (kind T codes ks) rs apart c st (inl g) (inr h) a b x y =
    absurd (not_in ks codes c apart.0 x.0 (reads_has ks rs.1 c st h b y))
reads_one (kind T codes ks) rs apart c st (inr g) (inl h) a b x y =
    absurd (not_in ks codes c apart.0 y.0 (reads_has ks rs.1 c st g a x))
reads_one (kind T codes ks) rs apart c st (inr g) (inr h) a b x y = reads_one ks rs.1 apart.1 c st g h a b x y

pub put_same : (ks : Kinds) (rs : Readings ks) (g h : Group ks) (m n : Fields ks) → SameGroup ks rs g h → SameFields ks rs m n
    → SameFields ks rs (put ks g m) (put ks h n)
put_same none rs g h m n s l = absurd s
put_same (kind T codes ks) rs (inl g) (inl h) m n s l = (s, l.1)
put_same (kind T codes ks) rs (inl g) (inr h) m n s l = absurd s
put_same (kind T codes ks) rs (inr g) (inl h) m n s l = absurd s
put_same (kind T codes ks) rs (inr g) (inr h) m n s l = (l.0, put_same ks rs.1 g h m.1 n.1 s l.1)

pub same_sym : (ks : Kinds) (rs : Readings ks) (m n : Fields ks) → SameFields ks rs m n → SameFields ks rs n m
same_sym none rs m n l = tt
same_sym (kind T codes ks) rs m n l = (option_sym rs.0.same rs.0.same_sym m.0 n.0 l.0, same_sym ks rs.1 m.1 n.1 l.1)

pub same_trans : (ks : Kinds) (rs : Readings ks) (m n o : Fields ks) → SameFields ks rs m n → SameFields ks rs n o → SameFields ks rs m o
same_trans none rs m n o l k = tt
same_trans (kind T codes ks) rs m n o l k =
    (option_trans rs.0.same rs.0.same_trans m.0 n.0 o.0 l.0 k.0, same_trans ks rs.1 m.1 n.1 o.1 l.1 k.1)

pub nothing_same : (ks : Kinds) (rs : Readings ks) → SameFields ks rs (nothing ks) (nothing ks)
nothing_same none rs = tt
nothing_same (kind T codes ks) rs = (tt, nothing_same ks rs.1)

pub nothing_weight : (ks : Kinds) (rs : Readings ks) → weight ks rs (nothing ks) ≡ 0
nothing_weight none rs = refl
nothing_weight (kind T codes ks) rs = omega (arith, nothing_weight ks rs.1)

-- how far was looked, and from which source, makes no difference
pub reads_looked : (ks : Kinds) (rs : Readings ks) (c j : ℕ) (st : State) (g : Group ks) (b : State) → Reads ks rs c st g b
    → (i : ℕ) × Reads ks rs c (looking j st) g (looking i b)
reads_looked none rs c j st g b h = absurd h
reads_looked (kind T codes ks) rs c j st (inl g) b h = let f = rs.0.looked j st g b h.1 in (f.0, (h.0, f.1))
reads_looked (kind T codes ks) rs c j st (inr g) b h = reads_looked ks rs.1 c j st g b h

pub reads_elsewhere : (ks : Kinds) (rs : Readings ks) (c : ℕ) (source : Source) (failed : Bool) (st : State) (g : Group ks) (b : State)
    → Reads ks rs c st g b → Reads ks rs c (elsewhere source failed st) g (elsewhere source failed b)
reads_elsewhere none rs c source failed st g b h = absurd h
reads_elsewhere (kind T codes ks) rs c source failed st (inl g) b h = (h.0, rs.0.reads_elsewhere source failed st g b h.1)
reads_elsewhere (kind T codes ks) rs c source failed st (inr g) b h = reads_elsewhere ks rs.1 c source failed st g b h

pub reads_leave : (ks : Kinds) (rs : Readings ks) (c : ℕ) (st : State) (g : Group ks) (b : State) → IsAtTop st → Reads ks rs c st g b
    → (m : Fields ks) → Leaves st (weight ks rs m) (weight ks rs (put ks g m)) b
reads_leave none rs c st g b t h m = absurd h
reads_leave (kind T codes ks) rs c st (inl g) b t h m = record {
  top = t;
  stays = rs.0.stays st g b h.1;
  taken = any_taken (rs.0.taken st g b h.1);
  counted = λ e. omega (arith, rs.0.counted st g b e h.1);
}
reads_leave (kind T codes ks) rs c st (inr g) b t h m =
    let r = reads_leave ks rs.1 c st g b t h m.1 in
    record { top = t; stays = r.stays; taken = r.taken; counted = λ e. omega (arith, r.counted e) }

pub fault_elsewhere : (ks : Kinds) (rs : Readings ks) (c : ℕ) (source : Source) (failed : Bool) (st : State) (e : Located)
    → KindFault ks rs c st e → KindFault ks rs c (elsewhere source failed st) e
fault_elsewhere none rs c source failed st e f = f
fault_elsewhere (kind T codes ks) rs c source failed st e (inl f) = inl (f.0, rs.0.fault_elsewhere source failed st e f.1)
fault_elsewhere (kind T codes ks) rs c source failed st e (inr f) = inr (fault_elsewhere ks rs.1 c source failed st e f)

pub fault_not_outside : (ks : Kinds) (rs : Readings ks) (c : ℕ) (e : Located) → IsOutside e.error → (st : State) → KindFault ks rs c st e → ⊥
fault_not_outside none rs c e o st f = f
fault_not_outside (kind T codes ks) rs c e o st (inl f) = rs.0.not_outside e o st f.1
fault_not_outside (kind T codes ks) rs c e o st (inr f) = fault_not_outside ks rs.1 c e o st f

pub fault_within : (ks : Kinds) (rs : Readings ks) (c : ℕ) (st : State) (e : Located) → KindFault ks rs c st e → e.left ≤ length st.rest
fault_within none rs c st e f = absurd f
fault_within (kind T codes ks) rs c st e (inl f) = rs.0.within st e f.1
fault_within (kind T codes ks) rs c st e (inr f) = fault_within ks rs.1 c st e f
