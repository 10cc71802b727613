-- What is wrong in bytes, whatever is around them and follows them.
use Rattle.std.proofs.Common.{◌≡◌, ℕ, suc, ◌+◌, List, [], ◌∷◌, ◌++◌, length, refl, sym, ap, ◌∙◌, subst, arith, append_assoc, append-nil}
use Rattle.amqp_wire.specs.declared.error.Error.{Error}
use Rattle.amqp_wire.specs.declared.error.Error.TheVariants.{Cut, Size}
use Rattle.amqp_model.specs.Term.{Descriptor}
use Rattle.amqp_model.specs.Spelling.{Constructor}
use Rattle.amqp_lengths.specs.Fronts.{Behind}
use Rattle.amqp_lengths.specs.Lengths.{Marks}
use Rattle.amqp_lengths.specs.Faults.{inside}
use Rattle.amqp_lengths.specs.Stands.{Piece, a_value, Around, unbounded, outermost, IsOwn, Step, to_described, Leads, no_step, steps}
use Rattle.amqp_lengths.specs.Stands.{IsWrong}
use Rattle.amqp_decoder.specs.State.{State}
use Rattle.amqp_decoder.specs.Places.{Located}
use Rattle.amqp_placed.specs.Facing.{bytes_open, Shows}
use Rattle.amqp_placed.specs.Shown.{IsOfNoEnd}

-- It stands so many bytes in front of the end of these.
pub record Found (P : Piece) (d : ℕ) (z : List ℕ) (e : Error) (left : ℕ) : Type 0 where
  pub piece : Piece
  pub depth : ℕ
  pub bytes : List ℕ
  pub inner : Around
  pub behind : ℕ
  pub leads : Leads P d z piece depth bytes inner behind
  pub place : left ≡ length bytes + behind
  pub wrong : IsWrong e unbounded piece depth bytes

pub found_here : (P : Piece) (d : ℕ) (z : List ℕ) (e : Error) (left : ℕ) → length z ≡ left → IsWrong e unbounded P d z → Found P d z e left
found_here P d z e left is h = record {
  piece = P;
  depth = d;
  bytes = z;
  inner = unbounded;
  behind = 0;
  leads = no_step P d z;
  place = omega (arith, is);
  wrong = h;
}

pub found_on : (P Q : Piece) (d k : ℕ) (z y : List ℕ) (e : Error) (left : ℕ) (entered : Around) (behind all : ℕ)
    → Step P d z Q k y entered behind → all ≡ left + behind → Found Q k y e left → Found P d z e all
found_on P Q d k z y e left entered behind all s is h = record {
  piece = h.piece;
  depth = h.depth;
  bytes = h.bytes;
  inner = outermost entered h.inner;
  behind = behind + h.behind;
  leads = steps P Q h.piece d k h.depth z y h.bytes entered h.inner behind h.behind s h.leads;
  place = omega (arith, h.place, is);
  wrong = h.wrong;
}

pub found_next : (P Q : Piece) (d k : ℕ) (z y : List ℕ) (e : Error) (left : ℕ) → Step P d z Q k y unbounded 0 → Found Q k y e left
    → Found P d z e left
found_next P Q d k z y e left s h = found_on P Q d k z y e left unbounded 0 left s (omega arith) h

-- nothing follows
pub found_all : (P : Piece) (d : ℕ) (z : List ℕ) (e : Error) (left : ℕ) → Found P d (z ++ []) e (left + 0) → Found P d z e left
found_all P d z e left h =
    let same : left + 0 ≡ left = omega arith in
    subst (Found P d z e) same (subst (λ l. Found P d l e (left + 0)) (append-nil z) h)

-- an error that isn't of an end or of a size is the same in a container
pub inside_same : (e : Error) → IsOfNoEnd (inside e) → inside e ≡ e
inside_same Cut h = absurd h
inside_same e h = refl

pub found_inside : (P : Piece) (d : ℕ) (z : List ℕ) (e : Error) (left : ℕ) → IsOfNoEnd (inside e) → (IsOfNoEnd e → Found P d z e left)
    → Found P d z (inside e) left
found_inside P d z e left other h =
    let same = inside_same e other in subst (λ x. Found P d z x left) (sym same) (h (subst IsOfNoEnd same other))

-- and is wrong whatever is around it
pub any_around : (e : Error) (around outer : Around) (P : Piece) (d : ℕ) (z : List ℕ) → IsOfNoEnd e → IsWrong e outer P d z
    → IsWrong e around P d z
any_around Cut around outer P d z other h = absurd other
any_around Size around outer P d z other h = absurd other
any_around e around outer P d z other h = h

pub shows_found : (st : State) (f : Located) (P : Piece) (d : ℕ) (around : Around) (left : ℕ) → IsOfNoEnd f.error
    → Found P d (bytes_open st) f.error left → f.left + length (bytes_open st) ≡ left + length st.rest → Shows st f P d around
shows_found st f P d around left other h is = record {
  left = left;
  place = is;
  stands = record {
    piece = h.piece;
    depth = h.depth;
    bytes = h.bytes;
    inner = h.inner;
    behind = h.behind;
    leads = h.leads;
    place = h.place;
    wrong = any_around f.error (outermost around h.inner) unbounded h.piece h.depth h.bytes other h.wrong;
  };
}

pub behind_more : (X : List ℕ → Type 0) (input after rest : List ℕ) → Behind X input after → Behind X (input ++ rest) (after ++ rest)
behind_more X input after rest h =
    record { front = h.front; is = ap (λ l. l ++ rest) h.is ∙ append_assoc h.front after rest; spelled = h.spelled }

-- through the descriptors of a constructor
pub through_marks : (ds : List Descriptor) (P : Piece) (d : ℕ) (z front after : List ℕ) (e : Error) (left : ℕ) → IsOwn P → Marks ds front
    → z ≡ front ++ after → ((Q : Piece) → IsOwn Q → Found Q (d + length ds) after e left) → Found P d z e left
through_marks [] P d z front after e left own none is h =
    let same : d + 0 ≡ d = omega arith in
    let there : after ≡ z = sym (is ∙ ap (λ l. l ++ after) none) in
    subst (λ l. Found P d l e left) there (subst (λ k. Found P k after e left) same (h P own))
through_marks (x ∷ ds) P d z front after e left own (first, second, s, names, marks) is h =
    let deeper : d + suc (length ds) ≡ suc d + length ds = omega arith in
    let all : z ≡ 0 ∷ (first ++ (second ++ after)) =
    is ∙ ap (λ l. l ++ after) s ∙ ap (λ l. 0 ∷ l) (append_assoc first second after) in
    subst (λ l. Found P d l e left) (sym all)
    (found_next P a_value d (suc d) (0 ∷ (first ++ (second ++ after))) (second ++ after) e left
    (to_described P d (first ++ (second ++ after)) (second ++ after) own (record { front = first; is = refl; spelled = (x, names) }))
    (through_marks ds a_value (suc d) (second ++ after) second after e left tt marks refl
    (λ Q o. subst (λ k. Found Q k after e left) deeper (h Q o))))

-- a constructor's descriptors, and its code
pub code_behind : (ds : List Descriptor) (c : ℕ) (b : List ℕ) → Constructor ds c b
    → (front : List ℕ) × Marks ds front × (b ≡ front ++ (c ∷ []))
code_behind [] c b (s, k) = ([], refl, s)
code_behind (x ∷ ds) c b (first, second, s, names, k) =
    let (front, marks, is) = code_behind ds c second k in (
      0 ∷ (first ++ front),
      (first, front, refl, names, marks),
      s ∙ ap (λ l. 0 ∷ (first ++ l)) is ∙ ap (λ l. 0 ∷ l) (sym (append_assoc first front (c ∷ []))),
    )
