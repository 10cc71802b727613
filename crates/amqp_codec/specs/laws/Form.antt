-- Data under one constructor is of one form (Part 1, section 1.2.4).
use Rattle.std.proofs.Common.{◌≡◌, ℕ, zero, suc, get_or, List, [], ◌∷◌, Option, Some, None, option_map, true, false, refl, sym, ap, ◌∙◌}
use Rattle.std.proofs.Common.{subst}
use Rattle.std.proofs.Common.{unwrap_or}
use Rattle.amqp_model.specs.Term.{Primitive, null, boolean, ubyte, ushort, uint, ulong, byte, short, int, long, char, timestamp, decimal32}
use Rattle.amqp_model.specs.Term.{decimal64, decimal128, uuid, binary, string, symbol, Container, list, map, array, Descriptor, Term, Terms}
use Rattle.amqp_model.specs.Term.{leaf, container, described, kept, barred, count}
use Rattle.amqp_model.specs.Constructors.{Format, fixed, variable, compound, unknown, format}
use Rattle.amqp_model.specs.Spelling.{PrimitiveData, ContainerData, HasWidthZero, IsDataOf, AreItemsOf, AreElementsOf}
use Rattle.amqp_model.specs.Text.{wide, form, primitive_form, wide_code}
use Rattle.amqp_model.specs.Items.{IsFree}
use Rattle.amqp_model.specs.Refusals.{core, HasForm}
use Rattle.amqp_lookahead.specs.Kinds.{kind_of, kind_at, nulls}
use Rattle.amqp_lookahead.proofs.KindsOfCodes.{kind_data, one_code}
use Rattle.amqp_codec.specs.TermType.{IsKept}

-- the codes in an array of the kinds but null, by their places
abbrev codes : List ℕ
codes = 0x56 ∷ 0x50 ∷ 0x60 ∷ 0x70 ∷ 0x80 ∷ 0x51 ∷ 0x61 ∷ 0x71 ∷ 0x81 ∷ 0x74 ∷ 0x84 ∷ 0x94 ∷ 0x73 ∷ 0x83 ∷ 0x98 ∷ 0xb0 ∷ 0xb1 ∷ 0xb3 ∷ []

abbrev form_of_kind : ℕ → Option (List Descriptor × ℕ)
form_of_kind zero = None
form_of_kind (suc n) = Some ([], get_or codes n 0)

boolean_form : (b : _) → primitive_form (boolean b) ≡ form_of_kind (kind_of (boolean b))
boolean_form true = refl
boolean_form false = refl

kind_form : (p : Primitive) → primitive_form p ≡ form_of_kind (kind_of p)
kind_form (boolean b) = boolean_form b
kind_form null = refl
kind_form (ubyte n) = refl
kind_form (ushort n) = refl
kind_form (uint n) = refl
kind_form (ulong n) = refl
kind_form (byte z) = refl
kind_form (short z) = refl
kind_form (int z) = refl
kind_form (long z) = refl
kind_form (char n) = refl
kind_form (timestamp z) = refl
kind_form (decimal32 b) = refl
kind_form (decimal64 b) = refl
kind_form (decimal128 b) = refl
kind_form (uuid b) = refl
kind_form (binary s) = refl
kind_form (string s) = refl
kind_form (symbol s) = refl

primitive_forms : (c : ℕ) (p r : Primitive) (b d : List ℕ) → PrimitiveData (format c) p b → PrimitiveData (format c) r d
    → primitive_form p ≡ primitive_form r
primitive_forms c p r b d h k =
    let e : kind_of p ≡ kind_of r = ap (λ o. unwrap_or o 0) (sym (kind_data c p b h) ∙ kind_data c r d k) in
    kind_form p ∙ ap form_of_kind e ∙ sym (kind_form r)

-- the kind of container of a format
abbrev container_in : Format → Option Container
container_in (fixed w v) = None
container_in (variable w v) = None
container_in (compound k w) = Some k
container_in unknown = None

primitive_in : (F : Format) (p : Primitive) (b : List ℕ) → PrimitiveData F p b → container_in F ≡ None
primitive_in (fixed w v) p b h = refl
primitive_in (variable w v) p b h = refl
primitive_in (compound k w) p b h = absurd h
primitive_in unknown p b h = refl

compound_in : (F : Format) (k : Container) (n : ℕ) (C : List ℕ → Type 0) (b : List ℕ) → ContainerData F k n C b → container_in F ≡ Some k
compound_in (fixed w v) k n C b h = absurd h
compound_in (variable w v) k n C b h = absurd h
compound_in (compound j w) k n C b h = ap Some h.0
compound_in unknown k n C b h = absurd h

data_in : (k : Container) (ts : Terms) (c : ℕ) (b : List ℕ) → IsDataOf (container k ts) [] c b → container_in (format c) ≡ Some k
data_in list ts c b h = compound_in (format c) list (count ts) (AreItemsOf ts) b h
data_in map ts c b h = compound_in (format c) map (count ts) (AreItemsOf ts) b h.1
data_in array ts c b h = compound_in (format c) array (count ts) (AreElementsOf ts) b h

container_bare : (k : Container) (ts : Terms) (e : Descriptor) (ds : List Descriptor) (c : ℕ) (b : List ℕ)
    → IsDataOf (container k ts) (e ∷ ds) c b → ⊥
container_bare list ts e ds c b h = h
container_bare map ts e ds c b h = h
container_bare array ts e ds c b h = h

no_container : (k : Container) → None ≡ Some k → ⊥
no_container k e = cc

pub data_form : (t r : Term) (ds : List Descriptor) (c : ℕ) (b d : List ℕ) → IsDataOf t ds c b → IsDataOf r ds c d → form t ≡ form r
data_form (leaf p) (leaf q) [] c b d h k = primitive_forms c p q b d h k
data_form (leaf p) (container j ts) [] c b d h k = absurd (no_container j (sym (primitive_in (format c) p b h) ∙ data_in j ts c d k))
data_form (leaf p) (described f r) [] c b d h k = absurd k
data_form (leaf p) (kept x) [] c b d h k = absurd k
data_form (leaf p) (barred x) [] c b d h k = absurd k
data_form (leaf p) r (e ∷ ds) c b d h k = absurd h
data_form (container j ts) (leaf p) [] c b d h k = absurd (no_container j (sym (primitive_in (format c) p d k) ∙ data_in j ts c b h))
data_form (container j ts) (container i us) [] c b d h k =
    ap (λ o. Some ([], wide_code (unwrap_or o j))) (sym (data_in j ts c b h) ∙ data_in i us c d k)
data_form (container j ts) (described f r) [] c b d h k = absurd k
data_form (container j ts) (kept x) [] c b d h k = absurd k
data_form (container j ts) (barred x) [] c b d h k = absurd k
data_form (container j ts) r (e ∷ ds) c b d h k = absurd (container_bare j ts e ds c b h)
data_form (described f t) r [] c b d h k = absurd h
data_form (described f t) (leaf p) (e ∷ ds) c b d h k = absurd k
data_form (described f t) (container j ts) (e ∷ ds) c b d h k = absurd (container_bare j ts e ds c d k)
data_form (described f t) (described g r) (e ∷ ds) c b d h k =
    ap (λ x. option_map (λ o. (x ∷ o.0, o.1)) (form t)) (h.0 ∙ sym k.0)
    ∙ ap (option_map (λ o. (g ∷ o.0, o.1))) (data_form t r ds c b d h.1 k.1)
data_form (described f t) (kept x) (e ∷ ds) c b d h k = absurd k
data_form (described f t) (barred x) (e ∷ ds) c b d h k = absurd k
data_form (kept x) r ds c b d h k = absurd h
data_form (barred x) r ds c b d h k = absurd h

-- null's data is of width zero
null_kind : (p : Primitive) → primitive_form p ≡ None → kind_of p ≡ nulls
null_kind null e = refl
null_kind (boolean true) e = cc
null_kind (boolean false) e = cc
null_kind p e = cc

map_none : {A B : Type 0} (f : A → B) (o : Option A) → option_map f o ≡ None → o ≡ None
map_none f None e = refl
map_none f (Some x) e = cc

-- what stands under a code that isn't of width zero has a form
pub data_has_form : (t : Term) (ds : List Descriptor) (c : ℕ) (x : List ℕ) → (HasWidthZero (format c) → ⊥) → IsDataOf t ds c x
    → form t ≡ None → ⊥
data_has_form (leaf p) [] c x some h n =
    let e : c ≡ 0x40 = one_code nulls 0x40 refl c (subst (λ k. kind_at c ≡ Some k) (null_kind p n) (kind_data c p x h)) in
    some (subst (λ c. HasWidthZero (format c)) (sym e) tt)
data_has_form (leaf p) (e ∷ ds) c x some h n = h
data_has_form (container k ts) ds c x some h n = cc
data_has_form (described f t) [] c x some h n = h
data_has_form (described f t) (e ∷ ds) c x some h n = data_has_form t ds c x some h.1 (map_none (λ o. (f ∷ o.0, o.1)) (form t) n)
data_has_form (kept b) ds c x some h n = h
data_has_form (barred r) ds c x some h n = h

-- a canonical term that is neither null, kept nor barred under its descriptors has a form
primitive_has_form : (p : Primitive) → (leaf p ≡ leaf null → ⊥) → HasForm (leaf p)
primitive_has_form null some = absurd (some refl)
primitive_has_form p some = (([], (wide p).0), refl)

pub core_has_form : (t : Term) → IsFree t → (core t ≡ leaf null → ⊥) → (IsKept (core t) → ⊥) → HasForm t
core_has_form (leaf p) free some bare = primitive_has_form p some
core_has_form (container k ts) free some bare = (([], wide_code k), refl)
core_has_form (described d t) free some bare =
    let i = core_has_form t free some bare in ((d ∷ i.0.0, i.0.1), ap (option_map (λ f. (d ∷ f.0, f.1))) i.1)
core_has_form (kept b) free some bare = absurd (bare tt)
core_has_form (barred r) free some bare = absurd (free r refl)
