-- The descriptors of all types in one list, and each by its symbol.
use Rattle.std.proofs.Common.{◌≡◌, ◌<◌, ℕ, Bool, true, false, List, [], length, Option, Some, None, unwrap_or, map, get_or, refl, sym, ap, ◌∙◌, subst}
use Rattle.std.proofs.lemmas.List.{get_or-map, length-map}
use Rattle.std.proofs.lemmas.List.Folds.{list_all_at}
use Rattle.std.proofs.lemmas.List.Quantifiers.{position-Some}
use Rattle.std.proofs.lemmas.Option.{none-some}
use Rattle.std.proofs.lemmas.Slice.Eq.{bytes_eq-Decides}
use Rattle.std.specs.List.{list_all}
use Rattle.std.specs.Option.{is_some}
use Rattle.amqp_model.specs.Term.{name}
use Rattle.amqp_catalogue.specs.declared.type_name.TypeName.{TypeName}
use Rattle.amqp_catalogue.specs.declared.type_name.TypeName.TheVariants as line_type
use Rattle.amqp_lookahead.specs.Members.{Member, is_of, place_of, as_name, name_place}
use Rattle.amqp_lookahead.proofs.Members.{place_is}
use Rattle.amqp_descriptors.specs.Descriptors.{descriptor_of, described, descriptors}

abbrev row_of : TypeName → ℕ × List ℕ
row_of named = unwrap_or (descriptor_of named) (0, [])

abbrev has_row : TypeName → Bool
has_row named = is_some (descriptor_of named)

own_row : (o : Option (ℕ × List ℕ)) → is_some o ≡ true → o ≡ Some (unwrap_or o (0, []))
own_row None h = absurd (cc)
own_row (Some d) h = refl

each_described : list_all has_row described ≡ true
each_described = refl

described_at : (k : ℕ) → k < length described → (b : Bool) → has_row (get_or described k line_type.Open) ≡ b → b ≡ true
described_at k w true e = refl
described_at k w false e = let f = list_all_at has_row described k line_type.Open w e in absurd (cc)

-- each row is the descriptor of a type
row_at : (k : ℕ) (d : ℕ × List ℕ) → k < length described → descriptor_of (get_or described k line_type.Open) ≡ Some (get_or descriptors k d)
row_at k d w =
    let named = get_or described k line_type.Open in
    own_row (descriptor_of named) (described_at k w (has_row named) refl) ∙ ap Some (sym (get_or-map row_of described k line_type.Open d w))

-- each type's descriptor is found by its symbol
found : (named : TypeName) → has_row named ≡ true → (k : ℕ) × (name_place descriptors (name (row_of named).1) ≡ Some k)
found line_type.Open h = (0, refl)
found line_type.Begin h = (1, refl)
found line_type.Attach h = (2, refl)
found line_type.Flow h = (3, refl)
found line_type.Transfer h = (4, refl)
found line_type.Disposition h = (5, refl)
found line_type.Detach h = (6, refl)
found line_type.End h = (7, refl)
found line_type.Close h = (8, refl)
found line_type.Error h = (9, refl)
found line_type.Received h = (10, refl)
found line_type.Accepted h = (11, refl)
found line_type.Rejected h = (12, refl)
found line_type.Released h = (13, refl)
found line_type.Modified h = (14, refl)
found line_type.Source h = (15, refl)
found line_type.Target h = (16, refl)
found line_type.DeleteOnClose h = (17, refl)
found line_type.DeleteOnNoLinks h = (18, refl)
found line_type.DeleteOnNoMessages h = (19, refl)
found line_type.DeleteOnNoLinksOrMessages h = (20, refl)
found line_type.Coordinator h = (21, refl)
found line_type.Declare h = (22, refl)
found line_type.Discharge h = (23, refl)
found line_type.Declared h = (24, refl)
found line_type.TransactionalState h = (25, refl)
found line_type.SaslMechanisms h = (26, refl)
found line_type.SaslInit h = (27, refl)
found line_type.SaslChallenge h = (28, refl)
found line_type.SaslResponse h = (29, refl)
found line_type.SaslOutcome h = (30, refl)
found line_type.Header h = (31, refl)
found line_type.DeliveryAnnotations h = (32, refl)
found line_type.MessageAnnotations h = (33, refl)
found line_type.Properties h = (34, refl)
found line_type.ApplicationProperties h = (35, refl)
found line_type.Data h = (36, refl)
found line_type.AmqpSequence h = (37, refl)
found line_type.AmqpValue h = (38, refl)
found line_type.Footer h = (39, refl)
found _ h = absurd (cc)

-- where no row is found, no type has the symbol
pub none_has : (rows : List Member) → map as_name rows ≡ descriptors → (s : List ℕ) → place_of rows (name s) ≡ None
    → (named : TypeName) (code : ℕ) → descriptor_of named ≡ Some (code, s) → ⊥
none_has rows is s e named code h =
    let (k, f) = found named (ap is_some h) in
    let by_name = place_is (name s) rows ∙ ap (λ l. name_place l (name s)) is in
    let own = ap (λ (o : Option (ℕ × List ℕ)). name_place descriptors (name (unwrap_or o (0, [])).1)) (sym h) in
    none-some k (sym e ∙ by_name ∙ own ∙ f)

-- the row that is found is that of a type with the symbol
pub some_has : (rows : List Member) → map as_name rows ≡ descriptors → (s : List ℕ) (k : ℕ) (d : Member) → place_of rows (name s) ≡ Some k
    → (named : TypeName) × (descriptor_of named ≡ Some ((get_or rows k d).0, s))
some_has rows is s k d e =
    let p = position-Some (is_of (name s)) rows k d e in
    let few : k < length described = subst (λ n. k < n) (sym (length-map rows as_name) ∙ ap length is) p.0 in
    let row : get_or descriptors k (as_name d) ≡ as_name (get_or rows k d) =
    sym (ap (λ l. get_or l k (as_name d)) is) ∙ get_or-map as_name rows k d (as_name d) p.0 in
    let text = (bytes_eq-Decides (get_or rows k d).1.now s).0 p.1 in (
      get_or described k line_type.Open,
      row_at k (as_name d) few ∙ ap Some (row ∙ ap (λ t. ((get_or rows k d).0, t)) text),
    )
