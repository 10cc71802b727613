-- Which kind of term begins by a code (Part 1, sections 1.2 and 1.6).
use Rattle.std.specs.Prelude.{ℕ, cond, eqb, List, [], ◌∷◌, get_or, unwrap_or}
use Rattle.amqp_model.specs.Term.{Container, list, map, array, Term, leaf, container, described, kept, barred}
use Rattle.amqp_model.specs.Constructors.{Format, fixed, variable, compound, unknown, format}
use Rattle.amqp_lookahead.specs.Kinds.{kind_of, kind_under}
use Rattle.amqp_kinds.specs.declared.kind.Kind.{Kind}
use Rattle.amqp_kinds.specs.declared.kind.Kind.TheVariants as kind

-- The kinds of primitives, by their places among those of section 1.6.
abbrev pub primitive_kinds : List Kind
primitive_kinds =
    kind.Null ∷ kind.Bool ∷ kind.Ubyte ∷ kind.Ushort ∷ kind.Uint ∷ kind.Ulong ∷ kind.Byte ∷ kind.Short ∷ kind.Int ∷ kind.Long
    ∷ kind.Decimal32 ∷ kind.Decimal64 ∷ kind.Decimal128 ∷ kind.Char ∷ kind.Timestamp ∷ kind.Uuid ∷ kind.Binary ∷ kind.String
    ∷ kind.Symbol ∷ []

abbrev pub kind_numbered : ℕ → Kind
kind_numbered n = get_or primitive_kinds n kind.Null

abbrev pub container_kind : Container → Kind
container_kind list = kind.List
container_kind map = kind.Map
container_kind array = kind.Array

-- What a term is; bytes that are kept, and what is barred, aren't asked for.
abbrev pub term_kind : Term → Kind
term_kind (leaf p) = kind_numbered (kind_of p)
term_kind (container k ts) = container_kind k
term_kind (described d t) = kind.Described
term_kind (kept b) = kind.Null
term_kind (barred r) = kind.Null

-- What stands under a format: null where it is unknown.
abbrev pub format_kind : Format → Kind
format_kind (fixed width value) = kind_numbered (unwrap_or (kind_under (fixed width value)) 0)
format_kind (variable width value) = kind_numbered (unwrap_or (kind_under (variable width value)) 0)
format_kind (compound k width) = container_kind k
format_kind unknown = kind.Null

-- What begins by a code: a described value by 0.
abbrev pub kind_at : ℕ → Kind
kind_at c = cond (eqb c 0) kind.Described (format_kind (format c))
