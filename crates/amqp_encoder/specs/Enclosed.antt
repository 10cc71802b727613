-- What is kept of the values that are open around the innermost one.
use Rattle.std.specs.Prelude.{◌≡◌, ◌≤◌, ◌<◌, ◌+◌, ◌⊎◌, ℕ, List, [], length, None}
use Rattle.std.specs.Int.{w64, from_le_bytes}
use Rattle.amqp_model.specs.Text.{Place, Alone, First, Later}
use Rattle.amqp_encoder.specs.Values.{place_of}
use Rattle.amqp_encoder.specs.State.{Open}
use Rattle.amqp_encoder.specs.declared.enclosing.Brief.{Brief}
use Rattle.amqp_encoder.specs.declared.frame.MeasuredContainer.{MeasuredContainer}

-- The innermost one comes first. There is memory for so many of those behind the outermost.
pub record Enclosed : Type 0 where
  pub items : List Open
  pub room : ℕ

abbrev pub none_around : Enclosed
none_around = record { items = []; room = 0 }

abbrev pub brief_at : Place → ℕ → ℕ → Open
brief_at Alone code n = record { container = None; place = Alone; code = code; content = n; count = 0; index = 0; form = 0 }
brief_at First code n = record { container = None; place = First; code = code; content = 0; count = 0; index = 0; form = n }
brief_at Later code n = record { container = None; place = Later; code = code; content = 0; count = 0; index = 0; form = n }

-- what a few bytes are kept of
abbrev pub brief_open : Brief → Open
brief_open b = brief_at (place_of b.place) b.code (from_le_bytes w64 b.number)

-- Alone its constructor goes on nowhere, and as an item it has no bytes until it has its value.
abbrev pub IsShort : Place → ℕ → ℕ → ℕ → Type 0
IsShort Alone content count form = form ≡ 0
IsShort First content count form = count ≡ 0 → content ≡ 0
IsShort Later content count form = count ≡ 0 → content ≡ 0

-- a described value of which a few bytes can be kept until it has its value
abbrev pub IsBrief : Open → Type 0
IsBrief o = (o.container ≡ None) × (o.index ≡ 0) × IsShort o.place o.content o.count o.form

abbrev pub CanBeBrief : Open → Type 0
CanBeBrief o = IsBrief o × (o.count ≡ 0)

-- There is a place for it among those that are open around another.
abbrev pub HasRoom : Enclosed → Open → Type 0
HasRoom e o = (length e.items < 8) ⊎ (121 ≤ e.room) ⊎ CanBeBrief o

-- It can be kept without memory being taken, once it is open around another.
abbrev pub MayBeKept : Enclosed → Open → Type 0
MayBeKept e o = (length e.items < 8) ⊎ (121 ≤ e.room) ⊎ IsBrief o

-- the outermost first, and memory only behind them and for all
abbrev pub IsFilledInTurn : List MeasuredContainer → List Open → List Open → ℕ → Type 0
IsFilledInTurn inner described outermost room =
    (length inner + length described + length outermost ≤ 129)
    × (length outermost ≤ 8)
    × ((length outermost ≡ 8) ⊎ ((inner ≡ []) × (described ≡ [])))
    × ((inner ≡ []) ⊎ (121 ≤ room))
