-- How the entries of a term grow, value by value.
use Rattle.std.proofs.Common.{◌≡◌, inl, inr, ℕ, ◌+◌, ◌<◌, ◌≤◌, List, [], ◌∷◌, ◌++◌, length, get_or, Option, Some, None, IfSome, unwrap_or, refl, ap, arith}
use Rattle.std.specs.List.{All, AllPairs}
use Rattle.std.proofs.lemmas.List.{get_or_append_left, get_or_push}
use Rattle.std.proofs.lemmas.List.Elements.{All-push, All-pop}
use Rattle.std.proofs.lemmas.List.Quantifiers.{all_pairs_push}
use Rattle.std.proofs.lemmas.Grind.{common_steps}
use Rattle.amqp_nodes.specs.declared.nodes.Node.{Node}
use Rattle.amqp_outlines.specs.declared.entry.Entry.{Entry}
use Rattle.amqp_outlines.specs.declared.outline.Open.{Open}
use Rattle.amqp_outlines.specs.declared.outline.Met.{Met}
use Rattle.amqp_outlines.specs.Spans.{IsWithin, ComesBefore, Precedes, IsOutline}
use Rattle.amqp_outlines.specs.Outlines.{IsFound, IsMet, IsMetAt, IsInside, IsOpen, LeadsTo, EndsBefore, Grows, Meets}

-- ---- lists with one more

pub pairs_front : {X : Type 0} (R : X → X → Type 0) (xs : List X) (y : X) → AllPairs R (xs ++ y ∷ []) → AllPairs R xs
pairs_front R xs y h i j d lt within =
    let near : i < length xs = omega arith in
    let low : get_or (xs ++ y ∷ []) i d ≡ get_or xs i d = get_or_append_left xs (y ∷ []) d i near in
    let high : get_or (xs ++ y ∷ []) j d ≡ get_or xs j d = get_or_append_left xs (y ∷ []) d j within in
    let far : j < length (xs ++ y ∷ []) = grind (arith, common_steps) in
    let told : R (get_or (xs ++ y ∷ []) i d) (get_or (xs ++ y ∷ []) j d) = h i j d lt far in
    rw (low, high) at told

pub pairs_last : {X : Type 0} (R : X → X → Type 0) (xs : List X) (y : X) → AllPairs R (xs ++ y ∷ []) → All (λ x. R x y) xs
pairs_last R xs y h k d lt =
    let low : get_or (xs ++ y ∷ []) k d ≡ get_or xs k d = get_or_append_left xs (y ∷ []) d k lt in
    let last : get_or (xs ++ y ∷ []) (length xs) d ≡ y = get_or_push xs y d (length xs) refl in
    let far : length xs < length (xs ++ y ∷ []) = grind (arith, common_steps) in
    let told : R (get_or (xs ++ y ∷ []) k d) (get_or (xs ++ y ∷ []) (length xs) d) = h k (length xs) d lt far in
    rw (low, last) at told

-- ---- what comes before

pub weaker : (depth deeper from later to earlier : ℕ) (e : Entry) → ComesBefore depth from to e → depth ≤ deeper → from ≤ later
    → earlier ≤ to → ComesBefore deeper later earlier e
weaker depth deeper from later to earlier e (inl h) d f t = inl (omega arith)
weaker depth deeper from later to earlier e (inr (h, k, l)) d f t = inr (omega arith, omega arith, omega arith)

-- ---- what is left of the values that are opened

pub left : (l n : ℕ) (es : List Entry) (os : List Open) (o : Open) → Grows l n es (os ++ o ∷ []) → Grows l n es os
left l n es os o g = record {
  within = g.within;
  nested = g.nested;
  opens = (All-pop (IsOpen l n) (os ++ o ∷ []) os (Some o) refl g.opens).0;
  before = (All-pop (λ q. All (LeadsTo q) es) (os ++ o ∷ []) os (Some o) refl g.before).0;
  stacked = pairs_front EndsBefore os o g.stacked;
}

pub last_is_open : (l n : ℕ) (es : List Entry) (os : List Open) (o : Open) → Grows l n es (os ++ o ∷ []) → IsOpen l n o
last_is_open l n es os o g = (All-pop (IsOpen l n) (os ++ o ∷ []) os (Some o) refl g.opens).1

pub last_before : (l n : ℕ) (es : List Entry) (os : List Open) (o : Open) → Grows l n es (os ++ o ∷ []) → All (LeadsTo o) es
last_before l n es os o g = (All-pop (λ q. All (LeadsTo q) es) (os ++ o ∷ []) os (Some o) refl g.before).1

pub last_below : (l n : ℕ) (es : List Entry) (os : List Open) (o : Open) → Grows l n es (os ++ o ∷ []) → All (λ q. o.node.end ≤ q.next) os
last_below l n es os o g = pairs_last EndsBefore os o g.stacked

-- ---- steps

-- One more entry, before which all others come.
pub added : (l n : ℕ) (es : List Entry) (os : List Open) (f : Entry) → Grows l n es os → IsWithin l n f
    → All (ComesBefore f.depth f.from f.to) es → All (λ o. f.to ≤ o.next) os → Grows l n (es ++ f ∷ []) os
added l n es os f g is before below = record {
  within = All-push (IsWithin l n) es f g.within is;
  nested = all_pairs_push Precedes es f g.nested before;
  opens = g.opens;
  before = λ k d lt. All-push (LeadsTo (get_or os k d)) es f (g.before k d lt) (inl (below k d lt));
  stacked = g.stacked;
}

-- The parts of the last entry come next.
pub opened_last : (l n : ℕ) (es : List Entry) (os : List Open) (f : Entry) (p : Open) → Grows l n (es ++ f ∷ []) os → IsOpen l n p
    → f.depth < p.depth → f.from ≤ p.next → p.node.end ≤ f.to → All (ComesBefore f.depth f.from f.to) es → All (λ o. f.to ≤ o.next) os
    → Grows l n (es ++ f ∷ []) (os ++ p ∷ [])
opened_last l n es os f p g is deep from to before below = record {
  within = g.within;
  nested = g.nested;
  opens = All-push (IsOpen l n) os p g.opens is;
  before = All-push (λ o. All (LeadsTo o) (es ++ f ∷ [])) os p g.before
      (All-push (LeadsTo p) es f
      (λ k d lt. weaker f.depth p.depth f.from p.next f.to p.node.end (get_or es k d) (before k d lt) (omega arith) from to)
      (inr (from, to, deep)));
  stacked = all_pairs_push EndsBefore os p g.stacked (λ k d lt. let h : f.to ≤ (get_or os k d).next = below k d lt in omega arith);
}

-- The parts of the value that was opened last come next from a later place on.
pub moved : (l n : ℕ) (es : List Entry) (os : List Open) (o p : Open) → Grows l n es (os ++ o ∷ []) → IsOpen l n p → o.depth ≤ p.depth
    → o.next ≤ p.next → p.node.end ≤ o.node.end → Grows l n es (os ++ p ∷ [])
moved l n es os o p g is deep from to =
    let front = left l n es os o g in
    record {
      within = g.within;
      nested = g.nested;
      opens = All-push (IsOpen l n) os p front.opens is;
      before = All-push (λ q. All (LeadsTo q) es) os p front.before
          (λ k d lt. weaker o.depth p.depth o.next p.next o.node.end p.node.end (get_or es k d) (last_before l n es os o g k d lt) deep from to);
      stacked = all_pairs_push EndsBefore os p front.stacked
          (λ k d lt. let h : o.node.end ≤ (get_or os k d).next = last_below l n es os o g k d lt in omega arith);
    }

-- A value is met in the one that was opened last, whose parts go on behind it.
pub meets : (l n : ℕ) (input : List ℕ) (es : List Entry) (os : List Open) (o p : Open) (met : Met) → Grows l n es (os ++ o ∷ [])
    → IsMetAt input o.next o.node met → p.node ≡ o.node → p.depth ≡ o.depth → p.next ≡ met.node.end
    → Grows l n es (os ++ p ∷ []) × Meets l n o.depth met es (os ++ p ∷ [])
meets l n input es os o p met g told same deep next =
    let is = last_is_open l n es os o g in
    let some = is.some in
    let low = is.from in
    let inside : met.node.end ≤ o.node.end = told.inside some in
    let begins = told.is.begins in
    let from = told.from in
    let ends = is.ends in
    let end : p.node.end ≡ o.node.end = ap (λ (x : Node). x.end) same in
    let kind : p.node.kind ≡ o.node.kind = ap (λ (x : Node). x.kind) same in
    let later : o.next ≤ p.next = omega arith in
    let is_open : IsOpen l n p = record { from = omega arith; some = omega arith; next = omega arith; ends = omega arith } in
    let deeper : o.depth ≤ p.depth = omega arith in
    let within : p.node.end ≤ o.node.end = omega arith in (
      moved l n es os o p g is_open deeper later within,
      record {
        from = omega arith;
        within = omega arith;
        before = λ k d lt. let h = last_before l n es os o g k d lt in
            weaker o.depth o.depth o.next met.from o.node.end met.node.end (get_or es k d) h (omega arith) (omega arith) inside;
        below = All-push (λ q. met.node.end ≤ q.next) os p
            (λ k d lt. let h : o.node.end ≤ (get_or os k d).next = last_below l n es os o g k d lt in omega arith) (omega arith);
      },
    )

-- The entry of the value that is met.
pub entered : (l n depth : ℕ) (es : List Entry) (os : List Open) (met : Met) (f : Entry) → Grows l n es os → Meets l n depth met es os → IsMet met
    → f.depth ≡ depth → f.from ≡ met.from → f.to ≡ met.node.end → Grows l n (es ++ f ∷ []) os
entered l n depth es os met f g m is deep from to =
    let within = m.within in
    let low = m.from in
    let begins = is.begins in
    added l n es os f g (record { starts = omega arith; begins = omega arith; ends = omega arith })
    (λ k d lt. weaker depth f.depth met.from f.from met.node.end f.to (get_or es k d) (m.before k d lt) (omega arith) (omega arith) (omega arith))
    (λ k d lt. let h : met.node.end ≤ (get_or os k d).next = m.below k d lt in omega arith)

-- The same, and the parts of the value come next.
pub entered_open : (l n depth : ℕ) (es : List Entry) (os : List Open) (met : Met) (f : Entry) (o p : Open) → Grows l n es os → Meets l n depth met es os → IsMet met
    → f.depth ≡ depth → f.from ≡ met.from → f.to ≡ met.node.end → IsInside met o → p.node ≡ o.node → p.next ≡ o.next → p.depth ≡ depth + 1
    → Grows l n (es ++ f ∷ []) (os ++ p ∷ [])
entered_open l n depth es os met f o p g m is deep from to inside same next deeper =
    let within = m.within in
    let low = m.from in
    let begins = is.begins in
    let some = inside.some in
    let starts = inside.begins in
    let step = inside.next in
    let ends = inside.ends in
    let end : p.node.end ≡ o.node.end = ap (λ (x : Node). x.end) same in
    let kind : p.node.kind ≡ o.node.kind = ap (λ (x : Node). x.kind) same in
    let is_open : IsOpen l n p = record { from = omega arith; some = omega arith; next = omega arith; ends = omega arith } in
    opened_last l n es os f p (entered l n depth es os met f g m is deep from to) is_open (omega arith) (omega arith) (omega arith)
    (λ k d lt. weaker depth f.depth met.from f.from met.node.end f.to (get_or es k d) (m.before k d lt) (omega arith) (omega arith) (omega arith))
    (λ k d lt. let h : met.node.end ≤ (get_or os k d).next = m.below k d lt in omega arith)

-- An entry of no bytes where the parts go on.
pub omitted : (l n : ℕ) (es : List Entry) (os : List Open) (o : Open) (f : Entry) → Grows l n es (os ++ o ∷ []) → f.depth ≡ o.depth
    → f.from ≡ o.next → f.to ≡ o.next → Grows l n (es ++ f ∷ []) (os ++ o ∷ [])
omitted l n es os o f g deep from to =
    let is = last_is_open l n es os o g in
    let low = is.from in
    let next = is.next in
    let ends = is.ends in
    added l n es (os ++ o ∷ []) f g (record { starts = omega arith; begins = omega arith; ends = omega arith })
    (λ k d lt. weaker o.depth f.depth o.next f.from o.node.end f.to (get_or es k d) (last_before l n es os o g k d lt) (omega arith) (omega arith) (omega arith))
    (All-push (λ q. f.to ≤ q.next) os o
    (λ k d lt. let h : o.node.end ≤ (get_or os k d).next = last_below l n es os o g k d lt in omega arith) (omega arith))

-- ---- the whole

-- The first value is met behind an outline.
pub begun : (l n at : ℕ) (es : List Entry) (met : Met) → l ≤ at → IsOutline l at es → met.from ≡ at → met.node.end ≡ n → IsMet met
    → Grows l n es [] × Meets l n 0 met es []
begun l n at es met low h from to is =
    let begins = is.begins in (
      record {
        within = λ k d lt. let w = h.within k d lt in let b = w.begins in let e = w.ends in record { starts = w.starts; begins = b; ends = omega arith };
        nested = h.nested;
        opens = λ k d lt. absurd (omega arith);
        before = λ k d lt. absurd (omega arith);
        stacked = λ i j d lt near. absurd (omega arith);
      },
      record {
        from = omega arith;
        within = omega arith;
        before = λ k d lt. let w = h.within k d lt in let e = w.ends in inl (omega arith);
        below = λ k d lt. absurd (omega arith);
      },
    )

pub outline_of : (l n m : ℕ) (es : List Entry) (os : List Open) → Grows l n es os → n ≤ m → IsOutline l m es
outline_of l n m es os g le = record {
  within = λ k d lt. let w = g.within k d lt in let b = w.begins in let e = w.ends in record { starts = w.starts; begins = b; ends = omega arith };
  nested = g.nested;
}

pub longer_outline : (l n m : ℕ) (es : List Entry) → IsOutline l n es → n ≤ m → IsOutline l m es
longer_outline l n m es h le = record {
  within = λ k d lt. let w = h.within k d lt in let b = w.begins in let e = w.ends in record { starts = w.starts; begins = b; ends = omega arith };
  nested = h.nested;
}

pub empty_outline : (l n : ℕ) → IsOutline l n []
empty_outline l n = record {
  within = λ k d lt. absurd (omega arith);
  nested = λ i j d lt near. absurd (omega arith);
}

-- A node is found where the value is met.
pub met_found : (input : List ℕ) (at : ℕ) (around node : Node) (met : Met) → IsFound input at around node → met.from ≡ at → met.node ≡ node
    → IsMetAt input at around met
met_found input at around node met h from same =
    let some = h.some in
    let begins = h.begins in
    let next = h.next in
    let within = h.within in
    let moves = h.moves in
    let kind : met.node.kind ≡ node.kind = ap (λ (x : Node). x.kind) same in
    let end : met.node.end ≡ node.end = ap (λ (x : Node). x.end) same in
    let first : met.node.next ≡ node.next = ap (λ (x : Node). x.next) same in
    record {
      is = record { some = omega arith; begins = omega arith; next = omega arith };
      from = from;
      moves = λ none. let far : at < node.end = moves none in omega arith;
      within = omega arith;
      inside = λ inner. let low : node.end ≤ around.end = h.inside inner in omega arith;
    }

-- Where a value ends if it is whole, and else the input.
pub ended : (l : ℕ) (found : Option ℕ) (end len : ℕ) (es : List Entry) → IfSome found (λ k. k ≡ end) → IsOutline l end es → end ≤ len
    → IsOutline l (unwrap_or found len) es
ended l (Some k) end len es same h le = longer_outline l end k es h (omega (arith, same))
ended l None end len es same h le = longer_outline l end len es h le

pub ended_within : (found : Option ℕ) (from end len : ℕ) → IfSome found (λ k. k ≡ end) → from < end → end ≤ len
    → IfSome found (λ k. (from < k) × (k ≤ len))
ended_within (Some k) from end len same low high = (omega (arith, same), omega (arith, same))
ended_within None from end len same low high = tt

-- Parts that are in a value which is met in another one are in that one.
pub inside_of : (input : List ℕ) (at : ℕ) (met value : Met) (o p : Open) → IsMet met → met.from ≤ at → IsMetAt input at met.node value
    → IsInside value o → p.node ≡ o.node → p.next ≡ o.next → IsInside met p
inside_of input at met value o p is behind told inside same next =
    let some = is.some in
    let from = told.from in
    let low : value.node.end ≤ met.node.end = told.inside some in
    let kind = inside.some in
    let begins = inside.begins in
    let step = inside.next in
    let ends = inside.ends in
    let k : p.node.kind ≡ o.node.kind = ap (λ (x : Node). x.kind) same in
    let e : p.node.end ≡ o.node.end = ap (λ (x : Node). x.end) same in
    record { some = omega arith; begins = omega arith; next = omega arith; ends = omega arith }
