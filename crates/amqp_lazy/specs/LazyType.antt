-- Values that are the bytes of a term (Part 1, section 1.2).
use Rattle.std.proofs.Common.{◌≡◌, ℕ, true, false, List, [], ◌∷◌, ◌++◌, length, refl, sym, ap, ap₂, ◌∙◌, subst, arith, Vec, Global}
use Rattle.std.proofs.lemmas.Bool.{eqb-true}
use Rattle.std.proofs.lemmas.Bool.Decides.{same_from_decides}
use Rattle.amqp_model.specs.Term.{null, Refusal, too_large, Term, leaf, container, described, kept, barred}
use Rattle.amqp_model.specs.Constructors.{format}
use Rattle.amqp_model.specs.Spelling.{PrimitiveData, IsSpelling}
use Rattle.amqp_model.specs.Standing.{Standing, whole, part}
use Rattle.amqp_model.specs.Text.{text}
use Rattle.amqp_model.specs.Measures.{nodes}
use Rattle.amqp_model.specs.Refusals.{IsRefused}
use Rattle.amqp_model.specs.Kept.{ExpandsTo}
use Rattle.amqp_model.specs.Items.{is_null}
use Rattle.amqp_model.specs.laws.Item.{clash}
use Rattle.amqp_model.specs.FieldType.{unchanged}
use Rattle.amqp_model.proofs.Unique.{one_term}
use Rattle.amqp_lookahead.proofs.KindsOfCodes.{kind_data, one_code}
use Rattle.amqp_decoder.specs.Terms.{term_fault_left}
use Rattle.amqp_decoder.proofs.NotOutside.{term_not_outside}
use Rattle.amqp_decoder.proofs.Misspelled.{term_misspelled}
use Rattle.amqp_decoder.specs.laws.OtherSource.{term_placed}
use Rattle.amqp_decoder.specs.Places.{At, Located}
use Rattle.amqp_codec.specs.Faults.{Faults}
use Rattle.amqp_codec.specs.laws.Null.{null_primitive}
use Rattle.amqp_codec.specs.laws.OnlySize.{size_alone}
use Rattle.amqp_codec.specs.TermType.{TermType, IsLeaf, StandsCanonically, view_of, equality, Meant, Rewrites, IsNoShorter}
use Rattle.amqp_codec.specs.Agreement.{Agreement, via_writing, via_agreement}
use Rattle.amqp_codec.specs.Wrappers.{via}
use Rattle.amqp_codec.specs.Written.{Writing}
use Rattle.amqp_codec.specs.laws.Within.{constructor_within, takes_shrinks}
use Rattle.std.proofs.Common.{◌≤◌, ◌+◌, ◌-◌, length-append}
use Rattle.amqp_decoder.specs.State.{State}
use Rattle.amqp_decoder.specs.Terms.{NoTerm, wrong_size, wrong_term, term_left, SpellingFault, no_constructor, no_data, no_term, spelling_left, missing, in_array, misspelled, too_many}
use Rattle.amqp_lengths.proofs.Places.{term_within as fault_within}
use Rattle.amqp_wire.specs.declared.error.Error.{Error}

-- Bytes that spell a term, and how many values are in it: a described value is one with its descriptor.
pub record Counted : Type 0 where
  pub bytes : List ℕ
  pub nodes : ℕ

-- The same, as they lie in memory.
pub record Lazy : Type 0 where
  pub bytes : Vec ℕ Global
  pub nodes : ℕ

abbrev pub lazy_counted : Lazy → Counted
lazy_counted v = record { bytes = v.bytes.items; nodes = v.nodes }

abbrev pub lazy_bytes : Lazy → List ℕ
lazy_bytes v = v.bytes.items

-- The bytes spell a term.
abbrev pub SpellsTerm : List ℕ → Type 0
SpellsTerm b = (t : Term) × IsSpelling b t

-- The bytes spell a term of so many values.
abbrev pub IsCounted : Counted → Type 0
IsCounted v = (t : Term) × IsSpelling v.bytes t × (nodes t ≡ v.nodes)

-- A term means the bytes that spell it, where it stands as bytes of its own. As the data of an array's item it means none.
abbrev pub MeansBytes : Standing → Term → Counted → Type 0
MeansBytes (whole b) t v = (b ≡ v.bytes) × IsSpelling v.bytes t × (nodes t ≡ v.nodes)
MeansBytes (part ds c b) t v = ⊥

-- The canonical term of bytes keeps them.
abbrev pub bytes_canon : Counted → Term
bytes_canon v = kept v.bytes

no_term_within : (nesting : ℕ) (b : List ℕ) (st : State) (e : Error) (f : NoTerm nesting b st e)
    → term_left nesting b st e f ≤ length b + length st.rest
no_term_within nesting b st e (wrong_size refused fault size) = omega (arith, fault_within nesting b _ fault.0 fault.1)
no_term_within nesting b st e (wrong_term refused fault other) = omega (arith, fault_within nesting b e fault.0 fault.1)

spelling_within : (st : State) (e : Error) (f : SpellingFault st e) → spelling_left st e f ≤ length st.rest
spelling_within st e (no_constructor f) = constructor_within st e f
spelling_within st e (no_data took f) = omega arith
spelling_within st e (no_term {m = m} {b = b} {m' = m'} took data_ announced f) =
    omega (
      arith,
      no_term_within (st.nesting - length st.saved) (took.own ++ b) m' e f,
      length-append took.own b,
      takes_shrinks m b m' data_,
      takes_shrinks st took.own m took.took,
    )

pub lazy_within : (st : State) (e : Located) → At term_fault_left st e → e.left ≤ length st.rest
lazy_within st e (missing none is, place) = omega (arith, place)
lazy_within st e (in_array item shared is, place) = omega (arith, place)
lazy_within st e (misspelled item own f, place) = omega (arith, place, spelling_within st e.error f)
lazy_within st e (too_many took full is, place) = omega (arith, place)

-- Why no bytes of a term are read.
abbrev pub lazy_faults : Faults
lazy_faults = record {
  fault = At term_fault_left;
  not_outside = λ e out st h. term_not_outside out st h.0;
  fault_elsewhere = λ c st e. term_placed c;
  misspelled = λ st e _ i h. term_misspelled st e.error i h.0;
  within = lazy_within;
}

no_bytes : (z : List ℕ) → length z ≡ 0 → z ≡ []
no_bytes [] h = refl
no_bytes (n ∷ z) h = absurd (omega (arith, h))

-- null is spelled in one way
null_bytes : (b : List ℕ) → IsSpelling b (leaf null) → b ≡ 0x40 ∷ []
unfolding IsSpelling
null_bytes b ([], c, few, (x, y, e, k, d)) =
    let is = one_code 0 0x40 refl c (kind_data c null y d) in
    e ∙ ap (λ z. z ++ y) (k.0 ∙ ap (λ n. n ∷ []) is) ∙ ap (λ z. 0x40 ∷ z) (no_bytes y (subst (λ n. PrimitiveData (format n) null y) is d).0)
null_bytes b (d ∷ ds, c, few, (x, y, e, k, h)) = absurd h

pub null_spelled : IsSpelling (0x40 ∷ []) (leaf null)
unfolding IsSpelling
null_spelled = ([], 0x40, omega arith, (0x40 ∷ [], [], refl, (refl, tt), (refl, refl, tt)))

none_keeps : (v b : List ℕ) → IsSpelling v (kept b) → ⊥
unfolding IsSpelling
none_keeps v b (ds, c, few, (x, y, e, k, d)) = d

term_null : (v : List ℕ) (t : Term) → IsSpelling v t → is_null t ≡ true → v ≡ 0x40 ∷ []
term_null v (leaf p) s h = null_bytes v (subst (λ q. IsSpelling v (leaf q)) (null_primitive p h) s)
term_null v (container k ts) s h = absurd (clash h refl)
term_null v (described d t) s h = absurd (clash h refl)
term_null v (kept b) s h = absurd (none_keeps v b s)
term_null v (barred r) s h = absurd (clash h refl)

null_term : (v : List ℕ) (t : Term) → IsSpelling v t → v ≡ 0x40 ∷ [] → is_null t ≡ true
null_term v t s e = ap is_null (one_term v (0x40 ∷ []) [] [] t (leaf null) s null_spelled (ap (λ b. b ++ []) e))

kept_null : (v : List ℕ) → is_null (kept v) ≡ true → v ≡ 0x40 ∷ []
kept_null [] h = absurd (clash h refl)
kept_null (b ∷ []) h = ap (λ n. n ∷ []) (eqb-true b 0x40 h)
kept_null (b ∷ c ∷ bs) h = absurd (clash h refl)

-- bytes are null where the term is that they spell
null_alike : (v : List ℕ) (t : Term) → IsSpelling v t → is_null (kept v) ≡ is_null t
null_alike v t s =
    same_from_decides _ _ (kept_null v, (λ e. ap (λ b. is_null (kept b)) e)) (term_null v t s, null_term v t s)

-- bytes spell one term
pub one_spelled : (v : List ℕ) (t u : Term) → IsSpelling v t → IsSpelling v u → t ≡ u
one_spelled v t u s r = one_term v v [] [] t u s r refl

kept_writable : (v : List ℕ) (r : Refusal) → IsRefused r (kept v) → r ≡ too_large
kept_writable v =
    size_alone (record { unbarred = λ r e. cc; unmixed = λ h. h; no_null = λ h. h; no_kept = λ h. h; ascii = λ h. h })

pub bytes_meant : (s : Standing) (t : Term) (v : Counted) → MeansBytes s t v → Meant s t (IsCounted v) (bytes_canon v) v.nodes
bytes_meant (whole b) t v (own, spelled, counted) = record {
  value = (t, spelled, counted);
  free = λ r h. h;
  writable = λ _ r. kept_writable v.bytes r;
  bare_data = λ p _. p;
  null_alike = null_alike v.bytes t spelled;
  core_null = λ e. absurd (cc);
  formless = λ _. refl;
  nested = λ u r. rw (one_spelled v.bytes t u spelled r) (omega arith);
  leaf_alike = λ u r. subst IsLeaf (one_spelled v.bytes t u spelled r);
  counted = omega (arith, counted);
}
bytes_meant (part ds c b) t v m = absurd m

bytes_stand : (s : Standing) (t : Term) (v : Counted) → IsCounted v → StandsCanonically s (bytes_canon v) → ExpandsTo (bytes_canon v) t
    → MeansBytes s t v
unfolding text
bytes_stand (whole b) t v (u, spelled, counted) c r = (c, r, ap nodes (one_spelled v.bytes t u r spelled) ∙ counted)
bytes_stand (part ds n b) t v i c r = absurd (cc)

pub bytes_written : (v : Counted) → (let x = view_of IsCounted MeansBytes bytes_canon v in Rewrites x x)
bytes_written v = record {
  valued = λ i. tt;
  reads = λ (t, spelled, counted) f. (t, spelled);
  means = λ s t i f. bytes_stand s t v i;
  canon = refl;
}

pub bytes_one : (s : Standing) (t : Term) (v w : Counted) → MeansBytes s t v → MeansBytes s t w → v ≡ w
bytes_one (whole b) t v w (own, spelled, counted) (own', spelled', counted') =
    ap₂ (λ b n. record { bytes = b; nodes = n }) (sym own ∙ own') (sym counted ∙ counted')
bytes_one (part ds c b) t v w m n = absurd m

pub bytes_least : (b : List ℕ) (t : Term) (v : Counted) → MeansBytes (whole b) t v → IsNoShorter b t (bytes_canon v)
unfolding text
bytes_least b t v m bytes none e = omega (arith, ap length m.0)

pub no_truth : {P : Type 0} → false ≡ true → P
no_truth h = absurd (cc)

-- Bytes that spell a term, read and written as they are. What they count is the values in that term.
abbrev pub bytes_type : TermType Counted
bytes_type = record {
  is_value = IsCounted;
  means = MeansBytes;
  faults = lazy_faults;
  canon = bytes_canon;
  norm = unchanged;
  same = λ v w. v ≡ w;
  count = λ v. v.nodes;
  is_never_null = false;
  ignores_standing = false;
  takes_memory = true;
  is_least = true;
  sameness = equality (view_of IsCounted MeansBytes bytes_canon) bytes_one;
  rewrites = bytes_written;
  meant = bytes_meant;
  own = λ s t v m. refl;
  norm_norm = λ v. refl;
  formed = λ s z t u v w m n e. refl;
  never_null = no_truth;
  standing_ignored = no_truth;
  least = λ _. bytes_least;
}

-- How such bytes are written.
abbrev pub bytes_writing : Writing Counted
bytes_writing = record { canons = λ v. bytes_canon v ∷ []; is_value = IsCounted; proper = λ v (t, spelled, counted). ((t, spelled), tt) }

pub bytes_agreement : Agreement bytes_type bytes_writing
bytes_agreement = record { canons_is = λ v. refl; value_to = λ v i. i; value_from = λ v i. i }

-- A value is its bytes, with their number.
abbrev pub lazy_type : TermType Lazy
lazy_type = via bytes_type lazy_counted unchanged (λ v. refl)

abbrev pub lazy_writing : Writing Lazy
lazy_writing = via_writing lazy_counted bytes_writing

pub lazy_agreement : Agreement lazy_type lazy_writing
lazy_agreement = via_agreement lazy_counted unchanged (λ v. refl) bytes_agreement
