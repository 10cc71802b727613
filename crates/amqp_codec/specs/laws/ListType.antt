-- Lemmas of plain lists whose items fit a table of fields.
use Rattle.std.proofs.Common.{◌≡◌, inl, inr, ℕ, ◌+◌, ◌≤◌, true, List, [], ◌∷◌, length, refl, sym, ap, subst, arith, suc}
use Rattle.amqp_model.specs.Term.{Refusal, too_large, list, Descriptor, Term, Terms, container, none, more, count}
use Rattle.amqp_model.specs.Constructors.{Format, compound, fixed, variable, unknown, format}
use Rattle.amqp_model.specs.Spelling.{IsSpelling, IsDataOf, ContainerData, AreItemsOf as ItemsStand}
use Rattle.amqp_model.specs.Standing.{Standing, whole, part}
use Rattle.amqp_model.specs.Text.{Alone, text, texts}
use Rattle.amqp_model.specs.Measures.{nest}
use Rattle.amqp_model.specs.Ranges.{IsBytes}
use Rattle.amqp_model.specs.Refusals.{Somewhere, IsRefused}
use Rattle.amqp_model.specs.Items.{items_of, terms_of}
use Rattle.amqp_model.specs.laws.Item.{items_of-terms_of}
use Rattle.amqp_model.specs.FieldType.{Norm, normal, Meaning}
use Rattle.amqp_model.specs.Fields.{Fits, AreValues, IsNormal}
use Rattle.amqp_model.specs.Composite.{MeansList, canonical_list}
use Rattle.amqp_model.specs.laws.List.{list_cases, list_of_fields}
use Rattle.amqp_model.proofs.Least.{bytes_right, container_least}
use Rattle.amqp_model.proofs.Shortest.{format_least}
use Rattle.amqp_model.proofs.Lengths.{joined_length}
use Rattle.amqp_decoder.specs.State.{State}
use Rattle.amqp_decoder.specs.Primitives.{ReadsValue}
use Rattle.amqp_decoder.specs.Items.{Next, Contains}
use Rattle.amqp_decoder.proofs.ContainerTerms.{whole as list_whole, parts as list_parts}
use Rattle.amqp_codec.specs.TermType.{Spells, Meant, IsNoShorter}
use Rattle.amqp_codec.specs.laws.KeptBytes.{plain_reads}
use Rattle.amqp_codec.specs.laws.PrimitiveTerm.{container_not_null}
use Rattle.amqp_codec.specs.laws.OnlySize.{size_alone, list_flawless}
use Rattle.amqp_codec.specs.FieldReading.{FieldsRead}
use Rattle.amqp_codec.specs.Fields.{Fields, slots, items, count_of, are_least}
use Rattle.amqp_codec.specs.laws.Fields.{items_keeps_no_bytes, items_nested, items_counted, items_writable, items_fewest, items_least}

-- the items of a list stand in its data
data_items : (F : Format) (ts : Terms) (b : List ℕ) → ContainerData F list (count ts) (ItemsStand ts) b
    → (content : List ℕ) × ItemsStand ts content
data_items (compound k w) ts b (is, size, content, s, i, fits, room, e) = (content, i)
data_items (fixed w f) ts b h = absurd h
data_items (variable w f) ts b h = absurd h
data_items unknown ts b h = absurd h

list_items : (ts : Terms) (ds : List Descriptor) (c : ℕ) (b : List ℕ) → IsDataOf (container list ts) ds c b
    → (content : List ℕ) × ItemsStand ts content
list_items ts [] c b h = data_items (format c) ts b h
list_items ts (d ∷ ds) c b h = absurd h

standing_items : (s : Standing) (ts : Terms) → Spells s (container list ts) → (content : List ℕ) × ItemsStand ts content
unfolding IsSpelling
standing_items (whole b) ts (ds, c, few, (h, x, e, k, s)) = list_items ts ds c x s
standing_items (part ds c b) ts h = list_items ts ds c b h.1

list_short : (us ts : Terms) (f : ℕ) (x : List ℕ) → count us ≤ count ts → IsBytes x
    → ((content : List ℕ) → IsBytes content → ItemsStand ts content → length (texts us Alone) ≤ length content)
    → ContainerData (format f) list (count ts) (ItemsStand ts) x → length (text (container list us) Alone) ≤ 1 + length x
unfolding text
list_short none ts f x l bytes inner h = omega arith
list_short (more u us) ts f x l bytes inner h =
    container_least (format f) list (count ts) (suc (count us)) (ItemsStand ts) (texts (more u us) Alone) x (format_least f) l
    (inl (omega (arith, l))) h bytes inner

module _ {V : Type 0} (fs : Fields V) (norm : Norm V) (norm_is : (v : V) → IsNormal (slots fs) v (normal norm v)) where
  abbrev pub list_meaning : Meaning V
  list_meaning = (list_of_fields (slots fs) norm norm_is).meaning

  abbrev MeantHere : Standing → Term → V → Type 0
  MeantHere s t v = Meant s t (AreValues (slots fs) v) (canonical_list (slots fs) v) (suc (count_of fs v))

  list_writable : (s : Standing) (ts : Terms) (v : V) → Fits (slots fs) (items_of ts) v → Spells s (container list ts) → (r : Refusal)
      → Somewhere (IsRefused r) (canonical_list (slots fs) v) → r ≡ too_large
  list_writable s ts v f h r (inl i) = size_alone (list_flawless (items fs v)) r i
  list_writable s ts v f h r (inr i) = let stand = standing_items s ts h in items_writable fs ts stand.0 v stand.1 f r i

  fitting_meant : (s : Standing) (ts : Terms) (v : V) → Fits (slots fs) (items_of ts) v → MeantHere s (container list ts) v
  fitting_meant s ts v f =
      let own = canonical_list (slots fs) v in
      record {
        value = list_meaning.value (container list ts) v f;
        free = list_meaning.free (container list ts) v f;
        writable = list_writable s ts v f;
        bare_data = λ p k. k;
        null_alike = refl;
        core_null = λ e. absurd (container_not_null list (items fs v) e);
        formless = λ e. cc;
        nested = λ u r. subst (λ x. nest x ≤ nest (container list ts)) (sym (plain_reads own u (items_keeps_no_bytes fs v) r))
            (omega (arith, items_nested fs ts v f));
        leaf_alike = λ u r h. absurd h;
        counted = omega (arith, items_counted fs ts v f);
      }

  pub list_meant : (s : Standing) (t : Term) (v : V) → MeansList (slots fs) t v
      → Meant s t (AreValues (slots fs) v) (canonical_list (slots fs) v) (suc (count_of fs v))
  list_meant s t v = list_cases (slots fs) (λ t. MeantHere s t v) t v (λ ts. fitting_meant s ts v)

  spelled_least : are_least fs ≡ true → (b : List ℕ) (ts : Terms) (v : V) → Fits (slots fs) (items_of ts) v
      → IsNoShorter b (container list ts) (canonical_list (slots fs) v)
  unfolding IsSpelling
  spelled_least l b ts v f bytes n (d ∷ ds, c, few, (h, x, e, k, s)) = absurd s
  spelled_least l b ts v f bytes n ([], c, few, (h, x, e, k, s)) =
      let inner : (content : List ℕ) → IsBytes content → ItemsStand ts content → length (texts (items fs v) Alone) ≤ length content =
      λ content y i. items_least fs ts content v l y n.1 i f in
      let content = bytes_right h x (subst IsBytes e bytes) in
      omega (arith, joined_length b h x e, ap length k.0, list_short (items fs v) ts c x (items_fewest fs ts v f) content inner s)

  pub list_least : are_least fs ≡ true → (b : List ℕ) (t : Term) (v : V) → MeansList (slots fs) t v
      → IsNoShorter b t (canonical_list (slots fs) v)
  list_least l b t v = list_cases (slots fs) (λ t. IsNoShorter b t (canonical_list (slots fs) v)) t v (λ ts. spelled_least l b ts v)

-- The fields that were read are the list that stood there,
pub fields_value : {V : Type 0} (fs : Fields V) (st : State) (v : V) (b : State) → FieldsRead fs st v b
    → ReadsValue (λ s. MeansList (slots fs)) st v b
fields_value fs st v b h =
    let same = sym (items_of-terms_of h.terms) in
    let l = list_whole list tt st (terms_of h.terms) b (subst (λ ts. Contains list st ts b) same h.stand) in
    let fits = subst (λ ts. Fits (slots fs) ts v) same h.fits in
    record { bytes = l.bytes; term = container list (terms_of h.terms); stands = l.stands; moved = l.moved; meant = fits }

-- and each list that stands there is read as its fields.
pub value_fields : {V : Type 0} (fs : Fields V) (st : State) (v : V) (b : State) → ReadsValue (λ s. MeansList (slots fs)) st v b
    → FieldsRead fs st v b
value_fields fs st v b h =
    list_cases (slots fs) (λ t. Next st t b → FieldsRead fs st v b) h.term v
    (λ ts f n. record { terms = items_of ts; stand = list_parts list tt st ts b n; fits = f })
    h.meant (record { bytes = h.bytes; stands = h.stands; moved = h.moved })
