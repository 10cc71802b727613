-- What a decoder has before it.
use Rattle.std.specs.Prelude.{◌≡◌, ℕ, zero, suc, length, ◌+◌, ◌-◌, ◌%◌, ◌^◌, ◌≤◌, Bool, cond, eqb, nat_lt, true, false, List, [], ◌∷◌, take, drop, map, get_or, max, Option, Some}
use Rattle.std.specs.Prelude.{None, unwrap_or, option_map}
use Rattle.std.proofs.Common.{arith}
use Rattle.amqp_model.specs.Term.{Descriptor, Term}
use Rattle.amqp_model.specs.Constructors.{Format, unknown, format}
use Rattle.amqp_model.specs.Measures.{share, weight}
use Rattle.amqp_wire.specs.declared.error.Error.{Error}
use Rattle.amqp_wire.specs.declared.error.Error.TheVariants.{Depth, Limit}
use Rattle.amqp_wire.specs.declared.limits.Limits.{Limits}
use Rattle.amqp_wire.specs.Limits.{unlimited, limit_of}
use Rattle.amqp_wire.specs.declared.descriptor.Descriptor.{Descriptor as DescriptorValue}
pub use Rattle.amqp_lookahead.specs.Members.{descriptor_of}
use Rattle.amqp_decoder.specs.declared.frame.OpenContainer.{OpenContainer}
use Rattle.amqp_decoder.specs.declared.frame.Place.{Place}
use Rattle.amqp_decoder.specs.declared.frame.Place.TheVariants.{Top, InArray, InDescribed, InList, InMap}

-- An open container: where its values stand, and how many items and how many bytes are left of it, without what
-- stands in the containers that are open in it. At the top level any number of items is left, and the bytes are those that
-- a limit of the caller leaves; in a container they are those of its size (sized). The items of an array share a
-- constructor (Part 1, section 1.2.4): the descriptors that are still to be begun, and the code.
pub record Open : Type 0 where
  pub place : Place
  pub items : Option ℕ
  pub left : Option ℕ
  pub sized : Bool
  pub shared : Option (List Descriptor × ℕ)

-- name: the borrow that a source is
-- size: how many bytes it had at first, as a number of 64 bits
-- fault: where it was refused: how many of its bytes are before what is at fault; 0 unless it was
pub record Source : Type 0 where
  pub name : ℕ
  pub size : ℕ
  pub fault : ℕ

-- A source with this name that has these bytes, and wasn't refused.
abbrev pub fresh_source : ℕ → List ℕ → Source
fresh_source name bytes = record { name = name; size = length bytes % 2 ^ 64; fault = 0 }

-- What is known of a source while it is read: what it is called, and where it was refused.
pub record Reader : Type 0 where
  pub name : ℕ
  pub fault : ℕ

abbrev pub reader_of : Source → Reader
reader_of source = record { name = source.name; fault = source.fault }

-- size: how many bytes the source had at first, as a number of 64 bits
-- broken: the source has failed
-- alone: one term is read, and what stands behind it isn't looked at
-- free: no limit of the caller bounds what is read
pub record Course : Type 0 where
  pub size : ℕ
  pub broken : Bool
  pub alone : Bool
  pub free : Bool

-- rest: the bytes to the end of the input
-- ahead: how many of them were looked at
-- source: the source
-- top: the open container that values are read from
-- saved: the containers around it, the nearest first, as they will be once the inner one is closed
-- nesting: how many containers and described values may be nested, at most 128
-- quota: what the terms that may still begin weigh together, where a limit of the caller says it
-- error: what was refused
-- failed: the size of the source and whether it has failed, whether one term is read alone, and whether there are no limits of the caller
pub record State : Type 0 where
  pub rest : List ℕ
  pub ahead : ℕ
  pub source : Reader
  pub top : Open
  pub saved : List Open
  pub nesting : ℕ
  pub quota : Option ℕ
  pub error : Option Error
  pub failed : Course

-- The error for a value that nests deeper: below 128, that is a limit of the caller.
abbrev pub depth_error : ℕ → Error
depth_error nesting = cond (nat_lt nesting 128) Limit Depth

-- No limit of the caller bounds what is read: it may nest 128 deep, and have as many bytes and values as there are.
abbrev pub is_free : ℕ → ℕ → ℕ → Bool
is_free nesting bytes items = cond (nat_lt nesting 128) false (cond (eqb bytes unlimited) (eqb items unlimited) false)

-- The top level, where the limit leaves so many bytes.
abbrev pub top_level : Option ℕ → Open
top_level limit = record { place = Top; items = None; left = limit; sized = false; shared = None }

-- A decoder at the start of a source, within limits: the source's bytes and what it is called, whether it has failed, and whether one term
-- is read alone.
abbrev pub started : List ℕ → ℕ → Bool → Bool → Limits → State
started rest name broken alone limits = record {
  rest = rest;
  ahead = 0;
  source = record { name = name; fault = 0 };
  top = top_level (limit_of limits.bytes);
  saved = [];
  nesting = limits.nesting;
  quota = limit_of limits.items;
  error = None;
  failed = record { size = length rest % 2 ^ 64; broken = broken; alone = alone; free = is_free limits.nesting limits.bytes limits.items };
}

-- The source that a decoder reads.
abbrev pub source_in : State → Source
source_in st = record { name = st.source.name; size = st.failed.size; fault = st.source.fault }

-- The limits under which all is read that nests at most 128 deep, without a seed for hashes.
abbrev pub greatest : Limits
greatest = record { nesting = 128; bytes = unlimited; items = unlimited; hash_seed = 0; nests = omega arith }

-- The bytes that the size of a container leaves, where something stands in one.
abbrev pub bound_of : Open → Option ℕ
bound_of f = cond f.sized f.left None

abbrev pub items_of : Place → ℕ → Option ℕ
items_of Top n = None
items_of p n = Some n

abbrev pub DescriptorValues : Type 0
DescriptorValues = List DescriptorValue

-- The constructor of this code behind the descriptors from first to last.
abbrev pub shared_of : List DescriptorValue → ℕ → ℕ → ℕ → Option (List Descriptor × ℕ)
shared_of ds c first last = cond (eqb c 0) None (Some (map descriptor_of (take (last - first) (drop first ds)), c))

-- What a size leaves, or else what the limit does.
abbrev pub left_in : Option ℕ → Option ℕ → Option ℕ
left_in None limit = limit
left_in (Some l) limit = Some l

abbrev pub is_sized : Option ℕ → Bool
is_sized None = false
is_sized (Some l) = true

-- Nothing is left of a bound.
abbrev pub emptied : Option ℕ → Option ℕ
emptied o = option_map (λ l. 0) o

-- What the limit leaves for what stands around a frame: nothing, where its bytes have passed into that frame.
abbrev pub limit_around : Option ℕ → Option ℕ → Option ℕ
limit_around None limit = emptied limit
limit_around (Some l) limit = limit

abbrev pub open_of : List DescriptorValue → Option ℕ → OpenContainer → Open
open_of ds limit f = record {
  place = f.place;
  items = items_of f.place f.items;
  left = left_in f.left limit;
  sized = is_sized f.left;
  shared = shared_of ds f.code f.first f.last;
}

-- What stands in the row behind the frames that are in use.
abbrev pub unused : OpenContainer
unused = record { items = 0; left = None; place = Top; code = 0; first = 0; last = 0 }

-- The first n frames of the row, the last of them first.
abbrev pub stack : List DescriptorValue → Option ℕ → ℕ → List OpenContainer → List Open
stack ds limit zero fs = []
stack ds limit (suc n) fs =
    open_of ds limit (get_or fs n unused) ∷ stack ds (limit_around (get_or fs n unused).left limit) n fs

-- A container of n items in so many bytes, which share nothing.
abbrev pub holding : Place → ℕ → ℕ → Open
holding place n content = record { place = place; items = items_of place n; left = Some content; sized = true; shared = None }

-- How many descriptors the first n frames share together.
abbrev pub shared_in : ℕ → List OpenContainer → ℕ
shared_in zero fs = 0
shared_in (suc n) fs = (get_or fs n unused).last

-- The descriptors that each of the first n frames has, and one behind them that has m: those of the frame around it, and
-- at most 128 more.
abbrev pub AreNested : ℕ → List OpenContainer → ℕ → Type 0
AreNested zero fs m = m ≤ 128
AreNested (suc n) fs m = ((get_or fs n unused).last ≤ m) × (m ≤ (get_or fs n unused).last + 128) × AreNested n fs (get_or fs n unused).last

-- At the top level no size bounds anything, and nothing is shared.
abbrev pub IsLevel : OpenContainer → Type 0
IsLevel f = f.place ≡ Top → (f.left ≡ None) × (f.code ≡ 0)

-- Each of the first n frames is so, and what is described in one of them, or stands behind them at this place and has so many
-- bytes left, has no bound where the frame around it has none.
abbrev pub AreBounded : ℕ → List OpenContainer → Place → Option ℕ → Type 0
AreBounded zero fs p l = Unit {0}
AreBounded (suc n) fs p l = (p ≡ InDescribed → (get_or fs n unused).left ≡ None → l ≡ None) × IsLevel (get_or fs n unused)
    × AreBounded n fs (get_or fs n unused).place (get_or fs n unused).left

-- Where the items of a container stand.
abbrev pub IsContainer : Place → Type 0
IsContainer Top = ⊥
IsContainer InList = Unit {0}
IsContainer InMap = Unit {0}
IsContainer InArray = Unit {0}
IsContainer InDescribed = ⊥

-- A bound that may be absent has room for n.
abbrev pub Has : Option ℕ → ℕ → Type 0
Has None n = Unit {0}
Has (Some l) n = n ≤ l

abbrev pub lower : Option ℕ → ℕ → Option ℕ
lower None n = None
lower (Some l) n = Some (l - n)

-- The bytes that the sizes of all open containers announce and that are not yet taken.
abbrev pub bytes_left : List Open → ℕ
bytes_left [] = 0
bytes_left (f ∷ fs) = unwrap_or (bound_of f) 0 + bytes_left fs

abbrev pub announced : State → ℕ
announced st = bytes_left (st.top ∷ st.saved)

-- The next n bytes were looked at: none of them is taken.
abbrev pub after_look : ℕ → State → State
after_look n st = record st { ahead = max st.ahead n }

-- n bytes are taken.
abbrev pub after_bytes : ℕ → State → State
after_bytes n st = record st { rest = drop n st.rest; ahead = st.ahead - n }

-- n bytes of the open container are taken.
abbrev pub after_data : ℕ → State → State
after_data n st = record st { rest = drop n st.rest; ahead = st.ahead - n; top = record st.top { left = lower st.top.left n } }

-- A value of n bytes that weighs k is taken.
abbrev pub after_value : ℕ → ℕ → State → State
after_value n k st =
    record st {
      rest = drop n st.rest;
      ahead = st.ahead - n;
      top = record st.top { items = lower st.top.items 1; left = lower st.top.left n };
      quota = lower st.quota k;
    }

-- What begins by a constructor's first code weighs one, unless that is 0, behind which a descriptor stands, or is unknown.
abbrev pub counted_by : Format → ℕ
counted_by unknown = 0
counted_by _ = 1

abbrev pub counted : ℕ → ℕ
counted c = counted_by (format c)

-- What begins by a first code under what is shared: a shared descriptor has a weight of its own.
abbrev pub counted_in : Option (List Descriptor × ℕ) → ℕ → ℕ
counted_in None c = counted c
counted_in (Some ([], k)) c = counted c
counted_in (Some (d ∷ ds, k)) c = share d

abbrev pub is_shared : Option (List Descriptor × ℕ) → Bool
is_shared None = false
is_shared (Some c) = true

-- What a term weighs that stands next.
abbrev pub weight_at : State → Term → ℕ
weight_at st t = weight t (is_shared st.top.shared)

-- Whatever terms weigh, they may begin.
abbrev pub uncounted : State → State
uncounted st = record st { quota = None }

-- A container of n items in so many bytes is entered, and they are taken off the one around it.
abbrev pub in_container : Place → ℕ → ℕ → State → State
in_container place n content st =
    record st {
      top = holding place n content;
      saved = (record st.top { left = lower st.top.left content }) ∷ st.saved;
    }

-- So many bytes of the source are before those that are left.
abbrev pub IsPlaceOf : ℕ → State → Type 0
IsPlaceOf place st = (place + length st.rest) % 2 ^ 64 ≡ st.failed.size

-- A decoder that has refused, by this error and at this place.
abbrev pub refused_at : Error → ℕ → State → State
refused_at error place st = record st { error = Some error; source = record st.source { fault = place } }
