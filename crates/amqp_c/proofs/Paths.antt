-- The nodes of a path, written one after another.
use Rattle.std.proofs.Common.{◌≡◌, ℕ, ◌+◌, ◌≤◌, List, [], ◌∷◌, ◌++◌, length, take, drop, set, Option, Some, None, refl, sym, ap, subst, ◌∙◌, arith}
use Rattle.std.proofs.lemmas.List.{length_push}
use Rattle.std.proofs.Math.Seq.{take-nil}
use Rattle.amqp_paths.specs.declared.piece.Node.{Node}
use Rattle.amqp_paths.specs.declared.piece.Piece.TheVariants.{Value}
use Rattle.amqp_paths.specs.declared.path.Reached.{Reached}
use Rattle.amqp_paths.specs.Walks.{Walk, IsReached, GoesOn, Gives}
use Rattle.amqp_paths.specs.Pieces.{rank}
use Rattle.amqp_c.specs.declared.path.PathNode.{PathNode}
use Rattle.amqp_c.specs.Paths.{told_node, IsTypeHere, Tells, starts, goes_on}
use Rattle.amqp_c.proofs.Steps.{further}

-- So many nodes come before this one: no more than there are bytes before it.
abbrev IsAfter : List ℕ → ℕ → Option Reached → Type 0
IsAfter input count None = Unit {0}
IsAfter input count (Some r) = (count + rank r.node.piece ≤ r.node.at) × (r.node.at ≤ length input)

-- What is told when so many nodes have come.
pub record Told (input : List ℕ) (at : ℕ) (old now : List PathNode) (outer around : Option Node) (path : Walk) (count : ℕ) : Type 0 where
  pub told : List PathNode
  pub tells : Tells input at told outer around path.comes
  pub same : path.input ≡ input
  pub place : path.at ≡ at
  pub counted : count ≡ length told
  pub after : IsAfter input count path.comes
  pub most : count ≤ at + 1
  pub room : now ≡ take (length old) told ++ drop (length told) old

pub begun : (input : List ℕ) (at : ℕ) (old : List PathNode) (path : Walk) → path.input ≡ input → path.at ≡ at
    → path.comes ≡ Some (record { node = record { at = 0; piece = Value }; end = length input }) → Told input at old old None None path 0
begun input at old path same place begins = record {
  told = [];
  tells = subst (Tells input at [] None None) (sym begins) starts;
  same = same;
  place = place;
  counted = refl;
  after = subst (IsAfter input 0) (sym begins) (omega arith, omega arith);
  most = omega arith;
  room = ap (λ l. l ++ old) (sym (take-nil (length old)));
}

-- a node is written behind those that are there, if there is room
put_next : (told old : List PathNode) (x : PathNode) → set (take (length old) told ++ drop (length told) old) (length told) x
    ≡ take (length old) (told ++ (x ∷ [])) ++ drop (length (told ++ (x ∷ []))) old
put_next [] [] x = refl
put_next [] (y ∷ ys) x = ap (λ l. set (l ++ (y ∷ ys)) 0 x) (take-nil (length (y ∷ ys))) ∙ ap (λ l. x ∷ (l ++ ys)) (sym (take-nil (length ys)))
put_next (t ∷ ts) [] x = refl
put_next (t ∷ ts) (y ∷ ys) x = ap (λ l. t ∷ l) (put_next ts ys x)

put_at : (told old now : List PathNode) (x : PathNode) (count : ℕ) → now ≡ take (length old) told ++ drop (length told) old → count ≡ length told
    → set now count x ≡ take (length old) (told ++ (x ∷ [])) ++ drop (length (told ++ (x ∷ []))) old
put_at told old now x count is counted = ap (λ l. set l count x) is ∙ ap (λ n. set (take (length old) told ++ drop (length told) old) n x) counted
    ∙ put_next told old x

one_more : (input : List ℕ) (at : ℕ) (told : List PathNode) (outer around : Option Node) (comes next : Option Reached) (node : Node) (number : ℕ)
    (r : Reached) → Tells input at told outer around comes → comes ≡ Some r → node ≡ r.node → IsReached input at r → GoesOn input at r next
    → IsTypeHere input outer around node.piece number → Tells input at (told ++ (told_node node number ∷ [])) around (Some node) next
one_more input at told outer around comes next node number r tells here is reached on field =
    subst (λ n. IsTypeHere input outer around n.piece number → Tells input at (told ++ (told_node n number ∷ [])) around (Some n) next) (sym is)
    (λ f. goes_on told outer around r next number (subst (Tells input at told outer around) here tells) reached on f) field

-- the next node comes after no more nodes than bytes
next_after : (input : List ℕ) (at count : ℕ) (r : Reached) (next : Option Reached) → IsAfter input count (Some r) → IsReached input at r
    → GoesOn input at r next → IsAfter input (count + 1) next
next_after input at count r None after h on = tt
next_after input at count r (Some q) (few, there) h on = let (far, inside) = further input at r q h on in (omega (arith, few, far), inside)

pub fits : (input : List ℕ) (at : ℕ) (old now : List PathNode) (outer around : Option Node) (path path' : Walk) (count : ℕ) (node : Node)
    → Told input at old now outer around path count → Gives path (Some node) path' → (count ≤ length input)
fits input at old now outer around path path' count node h (r, here, is, same, place, reached, on) =
    let (few, there) = subst (IsAfter input count) here h.after in omega (arith, few, there)

pub goes : (input : List ℕ) (at : ℕ) (old now now' : List PathNode) (outer around : Option Node) (path path' : Walk) (count number : ℕ)
    (node : Node) (x : PathNode) → Told input at old now outer around path count → Gives path (Some node) path'
    → IsTypeHere input outer around node.piece number → x ≡ told_node node number → now' ≡ set now count x
    → Told input at old now' around (Some node) path' (count + 1)
goes input at old now now' outer around path path' count number node x h (r, here, is, same, place, reached, on) field made put =
    let reached' = subst (λ l. IsReached l at r) h.same (subst (λ p. IsReached path.input p r) h.place reached) in
    let on' = subst (λ l. GoesOn l at r path'.comes) h.same (subst (λ p. GoesOn path.input p r path'.comes) h.place on) in
    record {
      told = h.told ++ (told_node node number ∷ []);
      tells = one_more input at h.told outer around path.comes path'.comes node number r h.tells here is reached' on' field;
      same = same ∙ h.same;
      place = place ∙ h.place;
      after = next_after input at count r path'.comes (subst (IsAfter input count) here h.after) reached' on';
      most = let (few, there) = subst (IsAfter input count) here h.after in omega (arith, few, reached'.near);
      counted = ap (λ n. n + 1) h.counted ∙ sym (length_push h.told (told_node node number));
      room = put ∙ ap (set now count) made ∙ put_at h.told old now (told_node node number) count h.room h.counted;
    }
