-- The rows in which the parts of open containers stand.
use Rattle.std.specs.Prelude.{◌≡◌, ℕ, Bool, true, false, cond, List, map, unwrap_or, Some, None}
use Rattle.std.specs.List.{zip}
use Rattle.amqp_decoder.specs.declared.frame.OpenContainer.{OpenContainer}
use Rattle.amqp_decoder.specs.declared.frame.Place.{Place}
use Rattle.amqp_decoder.specs.declared.frame.Place.TheVariants as place
use Rattle.amqp_decoder.specs.declared.row.Kind.{Kind}
use Rattle.amqp_decoder.specs.declared.row.Kind.TheVariants.{Top, InList, InMap, InArray, InDescribed, SizedTop, SizedInList, SizedInMap}
use Rattle.amqp_decoder.specs.declared.row.Kind.TheVariants.{SizedInArray, SizedInDescribed}

abbrev pub kind_of : Place → Bool → Kind
kind_of place.Top b = cond b SizedTop Top
kind_of place.InList b = cond b SizedInList InList
kind_of place.InMap b = cond b SizedInMap InMap
kind_of place.InArray b = cond b SizedInArray InArray
kind_of place.InDescribed b = cond b SizedInDescribed InDescribed

abbrev pub place_in : Kind → Place
place_in Top = place.Top
place_in InList = place.InList
place_in InMap = place.InMap
place_in InArray = place.InArray
place_in InDescribed = place.InDescribed
place_in SizedTop = place.Top
place_in SizedInList = place.InList
place_in SizedInMap = place.InMap
place_in SizedInArray = place.InArray
place_in SizedInDescribed = place.InDescribed

abbrev pub sized_in : Kind → Bool
sized_in SizedTop = true
sized_in SizedInList = true
sized_in SizedInMap = true
sized_in SizedInArray = true
sized_in SizedInDescribed = true
sized_in _ = false

abbrev pub is_kind : Kind → Place → Bool → Type 0
is_kind k p b = (p ≡ place_in k) × (b ≡ sized_in k)

-- One open container from its parts: items, bytes left, kind, code, first and last descriptor.
abbrev pub container_of : ℕ × (ℕ × (Kind × (ℕ × (ℕ × ℕ)))) → OpenContainer
container_of (items, (left, (kind, (code, (first, last))))) = record {
  items = items;
  left = cond (sized_in kind) (Some left) None;
  place = place_in kind;
  code = code;
  first = first;
  last = last;
}

-- The containers whose parts stand in these rows.
abbrev pub joined : List ℕ → List ℕ → List Kind → List ℕ → List ℕ → List ℕ → List OpenContainer
joined items left kinds codes first last = map container_of (zip items (zip left (zip kinds (zip codes (zip first last)))))

-- The bytes that its size leaves.
abbrev pub left_of : OpenContainer → ℕ
left_of f = unwrap_or f.left 0
