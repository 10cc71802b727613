-- The parts of a term stand in one way.
use Rattle.std.proofs.Common.{◌≡◌, ℕ, List, [], ◌∷◌, ◌++◌, length, refl, sym, ap, ap₂, ◌∙◌, subst, subst₂, drop}
use Rattle.amqp_model.specs.Term.{Container, list, map, array, Term, Terms, leaf, container, described, kept, barred, none, more}
use Rattle.amqp_model.specs.Term.{Descriptor, count}
use Rattle.amqp_model.specs.Constructors.{Format, format}
use Rattle.amqp_model.specs.Spelling.{ContainerData, Spelled}
use Rattle.amqp_model.specs.Standing.{Standing, whole, part, StandWhole, StandAsData, StandInArray, StandIn, Parts}
use Rattle.amqp_model.proofs.Bytes.{rest}
use Rattle.amqp_model.proofs.Same.{One, names_same, constructor_same, container_same}
use Rattle.amqp_model.proofs.Unique.{fronts, data_same}

whole_one : (ts : Terms) (ss ss' : List Standing) → One (StandWhole ts ss) (StandWhole ts ss') (ss ≡ ss')
whole_one none ss ss' b h h' = h.1 ∙ sym h'.1
whole_one (more t ts) ss ss' b (f, g, r, e, k, w, s) (f', g', r', e', k', w', s') =
    let u = fronts f f' g g' t t k k' (sym e ∙ e') in
    let v : g ≡ g' = rest f f' g g' (ap length u.0) (sym e ∙ e') in
    s ∙ ap₂ (λ x l. whole x ∷ l) u.0 (whole_one ts r r' g w (subst (StandWhole ts r') (sym v) w')) ∙ sym s'

data_one : (ts : Terms) (ss ss' : List Standing) (ds : List Descriptor) (c : ℕ)
    → One (StandAsData ts ss ds c) (StandAsData ts ss' ds c) (ss ≡ ss')
data_one none ss ss' ds c b h h' = h.1 ∙ sym h'.1
data_one (more t ts) ss ss' ds c b (f, g, r, e, k, w, s) (f', g', r', e', k', w', s') =
    let u = data_same t t ds c f f' g g' k k' (sym e ∙ e') in
    let v : g ≡ g' = rest f f' g g' (ap length u.0) (sym e ∙ e') in
    s ∙ ap₂ (λ x l. part ds c x ∷ l) u.0 (data_one ts r r' ds c g w (subst (StandAsData ts r' ds c) (sym v) w')) ∙ sym s'

spelled_one : (D D' : List Descriptor → ℕ → List ℕ → Type 0) (E : Type 0) → ((ds : List Descriptor) (c : ℕ) → One (D ds c) (D' ds c) E)
    → One (Spelled D) (Spelled D') E
spelled_one D D' E inner b (ds, c, few, (h, d, e, k, s)) (ds', c', few', (h', d', e', k', s')) =
    let u = constructor_same ds ds' c c' h h' d d' k k' (sym e ∙ e') in
    let v : d ≡ d' = rest h h' d d' (ap length u.0) (sym e ∙ e') in
    inner ds c d s (subst₂ (λ zs z. D' zs z d) (sym u.1.0) (sym u.1.1) (subst (D' ds' c') (sym v) s'))

container_one : (F : Format) (k : Container) (n : ℕ) (C C' : List ℕ → Type 0) (E : Type 0) → One C C' E
    → One (ContainerData F k n C) (ContainerData F k n C') E
container_one F k n C C' E inner b h h' = (container_same F k n n C C' E (λ _. inner) b b [] [] h h' refl).1

array_one : (ts : Terms) (ss ss' : List Standing) → One (StandInArray ts ss) (StandInArray ts ss') (ss ≡ ss')
array_one none ss ss' b h h' = h ∙ sym h'
array_one (more t ts) ss ss' b h h' =
    spelled_one (StandAsData (more t ts) ss) (StandAsData (more t ts) ss') (ss ≡ ss') (data_one (more t ts) ss ss') b h h'

stand_one : (t : Term) (ss ss' : List Standing) (ds : List Descriptor) (c : ℕ) → One (StandIn t ss ds c) (StandIn t ss' ds c) (ss ≡ ss')
stand_one (leaf p) ss ss' ds c b h h' = h ∙ sym h'
stand_one (container list ts) ss ss' ds c b h h' =
    container_one (format c) list (count ts) (StandWhole ts ss) (StandWhole ts ss') (ss ≡ ss') (whole_one ts ss ss') b h h'
stand_one (container map ts) ss ss' ds c b h h' =
    container_one (format c) map (count ts) (StandWhole ts ss) (StandWhole ts ss') (ss ≡ ss') (whole_one ts ss ss') b h h'
stand_one (container array ts) ss ss' ds c b h h' =
    container_one (format c) array (count ts) (StandInArray ts ss) (StandInArray ts ss') (ss ≡ ss') (array_one ts ss ss') b h h'
stand_one (described d t) ss ss' [] c b h h' = absurd h
stand_one (described d t) ss ss' (e ∷ ds) c b h h' = h ∙ sym h'
stand_one (kept b) ss ss' ds c d h h' = absurd h
stand_one (barred r) ss ss' ds c d h h' = absurd h

pub parts_one : (s : Standing) (t : Term) (ss ss' : List Standing) → Parts s t ss → Parts s t ss' → ss ≡ ss'
parts_one (part ds c b) t ss ss' h h' = stand_one t ss ss' ds c b h h'
parts_one (whole b) (described d t) ss ss' (first, second, e, n, s) (first', second', e', n', s') =
    let all : first ++ second ≡ first' ++ second' = ap (drop 1) (sym e ∙ e') in
    let u = names_same d d first first' second second' n n' all in
    s ∙ ap (λ z. whole z ∷ []) (rest first first' second second' (ap length u.0) all) ∙ sym s'
parts_one (whole b) (leaf p) ss ss' h h' =
    spelled_one (StandIn (leaf p) ss) (StandIn (leaf p) ss') (ss ≡ ss') (stand_one (leaf p) ss ss') b h h'
parts_one (whole b) (container k ts) ss ss' h h' =
    spelled_one (StandIn (container k ts) ss) (StandIn (container k ts) ss') (ss ≡ ss') (stand_one (container k ts) ss ss') b h h'
parts_one (whole b) (kept l) ss ss' h h' =
    spelled_one (StandIn (kept l) ss) (StandIn (kept l) ss') (ss ≡ ss') (stand_one (kept l) ss ss') b h h'
parts_one (whole b) (barred r) ss ss' h h' =
    spelled_one (StandIn (barred r) ss) (StandIn (barred r) ss') (ss ≡ ss') (stand_one (barred r) ss ss') b h h'
