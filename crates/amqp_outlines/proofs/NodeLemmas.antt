-- Where nodes end.
use Rattle.std.proofs.Common.{◌≡◌, ℕ, ◌+◌, ◌-◌, ◌<◌, ◌≤◌, Bool, true, false, cond, eqb, List, ◌++◌, drop, length, refl, ap, arith}
use Rattle.std.proofs.lemmas.Bool.{eqb-true, eqb-false}
use Rattle.std.proofs.lemmas.List.{length-append, length-drop, length-take-le}
use Rattle.amqp_model.specs.Term.{Term, leaf, container, described, kept, barred}
use Rattle.amqp_nodes.specs.declared.nodes.Node.{Node}
use Rattle.amqp_nodes.specs.Nodes.{array_number, IsBareNode, IsTermNode, IsNode, bytes_at, reach_of}
use Rattle.amqp_outlines.specs.Outlines.{IsFound}

bare_ends : (t : Term) (b : List ℕ) (at : ℕ) (node : Node) → IsBareNode t b at node → node.end ≡ at + length b
bare_ends t b at node h = let e = h.told.ends in omega (arith, e, ap length h.is)

term_ends : (t : Term) (b : List ℕ) (at : ℕ) (node : Node) → IsTermNode t b at node → node.end ≡ at + length b
term_ends (described d t) b at node h = h.ends
term_ends (leaf p) b at node h = bare_ends (leaf p) b at node h
term_ends (container k ts) b at node h = bare_ends (container k ts) b at node h
term_ends (kept bs) b at node h = bare_ends (kept bs) b at node h
term_ends (barred r) b at node h = bare_ends (barred r) b at node h

term_has_byte : (t : Term) (b : List ℕ) (at : ℕ) (node : Node) → IsTermNode t b at node → 0 < length b
term_has_byte (described d t) b at node h = omega (arith, ap length h.is)
term_has_byte (leaf p) b at node h = omega (arith, ap length h.is)
term_has_byte (container k ts) b at node h = omega (arith, ap length h.is)
term_has_byte (kept bs) b at node h = omega (arith, ap length h.is)
term_has_byte (barred r) b at node h = omega (arith, ap length h.is)

reach_node : (input : List ℕ) (node : Node) → 0 < node.kind → reach_of input node ≡ node.end
reach_node input node some = by_test (eqb node.kind 0) refl
  where
    by_test : (t : Bool) → eqb node.kind 0 ≡ t → cond t (length input) node.end ≡ node.end
    by_test true e = let none : node.kind ≡ 0 = eqb-true node.kind 0 e in absurd (omega arith)
    by_test false e = refl

-- A node that begins at a place ends in the input, and in the node around it.
pub found_node : (input : List ℕ) (at : ℕ) (around node : Node) → IsNode input at around node → IsFound input at around node
found_node input at around node h = by_test (eqb around.kind array_number) refl
  where
    found : (front after : List ℕ) → bytes_at input at around ≡ front ++ after → node.end ≡ at + length front → (around.kind ≡ 0 → 0 < length front)
        → IsFound input at around node
    found front after is ends moves =
        let from : at ≤ reach_of input around = h.within.0 in
        let high : reach_of input around ≤ length input = h.within.1 in
        let n = reach_of input around - at in
        let room : n ≤ length (drop at input) = omega (arith, from, high, length-drop at input) in
        let low : node.end ≤ reach_of input around =
        omega (arith, from, ends, length-take-le n (drop at input) room, ap length is, length-append front after) in
        let kind = h.kind in
        let next = h.next in
        record {
          some = omega (arith, kind);
          begins = omega (arith, ends);
          moves = λ none. let byte = moves none in omega (arith, ends, byte);
          next = next;
          within = omega (arith, low, high);
          inside = λ some. let reach = reach_node input around some in omega (arith, low, reach);
        }

    by_test : (t : Bool) → eqb around.kind array_number ≡ t → IsFound input at around node
    by_test true e =
        let array = eqb-true around.kind array_number e in
        let b = h.part.item array in
        found b.front b.after b.is b.ends (λ none. absurd (omega (arith, array, none)))
    by_test false e =
        let b = h.part.term (eqb-false around.kind array_number e) in
        found b.front b.after b.is (term_ends b.term b.front at node b.told) (λ none. term_has_byte b.term b.front at node b.told)
