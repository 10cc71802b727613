-- A whole value, and one that is null.
use Rattle.std.proofs.Common.{◌≡◌, ℕ, suc, Option, Some, None, List, [], ◌∷◌, ◌++◌, length, refl, sym, ap, ◌∙◌}
use Rattle.std.proofs.Common.{subst, arith}
use Rattle.amqp_model.specs.Term.{null, list, map, array, Term, leaf, container, described, kept, barred, Descriptor}
use Rattle.amqp_model.specs.Constructors.{format}
use Rattle.amqp_model.specs.Spelling.{PrimitiveData, IsDataOf}
use Rattle.amqp_lookahead.specs.Kinds.{nulls, codes_of}
use Rattle.amqp_lookahead.proofs.KindsOfCodes.{kind_data, one_code}
use Rattle.amqp_lengths.specs.Fronts.{Behind}
use Rattle.amqp_lengths.specs.Stands.{Piece, a_value, an_item, AnyTerm, AnyData, IsOwn, IsWhole}
use Rattle.amqp_decoder.specs.State.{State, after_value, weight_at}
use Rattle.amqp_decoder.specs.Reading.{IsFirst}
use Rattle.amqp_decoder.specs.Primitives.{standing, SpellsAs, Stands, ReadsValue, Means}
use Rattle.amqp_decoder.proofs.ReadPrimitives.{value_leaf}
use Rattle.amqp_placed.specs.Facing.{bytes_open, IsUnderShared}
use Rattle.amqp_placed.proofs.Past.{past_code, past_taken, past_value, past_bytes, past_length}

-- the data under descriptors is that of what they describe
pub bare_data : (t : Term) (ds : List Descriptor) (c : ℕ) (b : List ℕ) → IsDataOf t ds c b → AnyData c b
bare_data (leaf p) [] c b h = (leaf p, h)
bare_data (container list ts) [] c b h = (container list ts, h)
bare_data (container map ts) [] c b h = (container map ts, h)
bare_data (container array ts) [] c b h = (container array ts, h)
bare_data (described d t) (e ∷ ds) c b h = bare_data t ds c b h.1
bare_data (leaf p) (e ∷ ds) c b h = absurd h
bare_data (container list ts) (e ∷ ds) c b h = absurd h
bare_data (container map ts) (e ∷ ds) c b h = absurd h
bare_data (container array ts) (e ∷ ds) c b h = absurd h
bare_data (described d t) [] c b h = absurd h
bare_data (kept k) ds c b h = absurd h
bare_data (barred r) ds c b h = absurd h

own_whole : (P : Piece) (z after : List ℕ) → IsOwn P → Behind AnyTerm z after → IsWhole P z
own_whole a_value z after own h = (tt, (after, h))
own_whole (an_item kind n i) z after own h = (tt, (after, h))
own_whole _ z after own h = absurd own

whole_shared : (o : Option (List Descriptor × ℕ)) (P : Piece) (t : Term) (s z y : List ℕ) → IsUnderShared o P → SpellsAs (standing o s) t
    → z ≡ s ++ y → IsWhole P z
whole_shared None P t s z y h spelled is = own_whole P z y h (record { front = s; is = is; spelled = (t, spelled) })
whole_shared (Some (ds, c)) P t s z y (n, i, p, known) data_ is =
    subst (λ Q. IsWhole Q z) (sym p) (y, record { front = s; is = is; spelled = bare_data t ds c s data_ })

-- A term stands next.
pub whole_next : (st : State) (P : Piece) (s : List ℕ) (t : Term) → Stands st s t → IsUnderShared st.top.shared P
    → IsWhole P (bytes_open st)
whole_next st P s t h next =
    whole_shared st.top.shared P t s (bytes_open st) (bytes_open (after_value (length s) (weight_at st t) st)) next h.spelled
    (past_bytes (past_value st s t h))

null_codes : codes_of nulls ≡ 0x40 ∷ []
null_codes = refl

-- Null stands next, with a constructor of its own.
pub record IsNull (st b : State) : Type 0 where
  pub bytes : bytes_open st ≡ 0x40 ∷ bytes_open b
  pub rest : length st.rest ≡ suc (length b.rest)

pub null_next : (st b : State) → st.top.shared ≡ None → ReadsValue (Means (λ (_ : Unit {0}). null)) st tt b → IsNull st b
null_next st b own h =
    let r = value_leaf (λ (_ : Unit {0}). null) st tt b h in
    let code = one_code nulls 0x40 null_codes r.code (kind_data r.code null r.data_ r.spelled) in
    let none : length r.data_ ≡ 0 = (subst (λ c. PrimitiveData (format c) null r.data_) code r.spelled).0 in
    let first : r.begun.own ≡ r.code ∷ [] = subst (λ o. IsFirst o r.code r.begun.own) own r.begun.first in
    let past0 = past_code st r.code r.mid r.begun in
    let past1 = past_taken r.mid r.data_ b r.took in
    record {
      bytes = past_bytes past0 ∙ ap (λ l. l ++ bytes_open r.mid) (first ∙ ap (λ c. c ∷ []) code)
          ∙ ap (λ l. 0x40 ∷ l) (past_bytes past1 ∙ ap (λ l. l ++ bytes_open b) (no_bytes r.data_ none));
      rest = omega (arith, past_length past0, past_length past1, ap length first, none);
    }
  where
    no_bytes : (l : List ℕ) → length l ≡ 0 → l ≡ []
    no_bytes [] none = refl
    no_bytes (x ∷ l) none = absurd (omega (arith, none))
