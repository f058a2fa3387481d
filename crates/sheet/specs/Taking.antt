-- The turns and answers of the code, as those of the machine. Assumes nothing.
use Rattle.std.specs.Prelude.{ℕ}
use Rattle.taylor.specs.Model.{unpacked}
use Rattle.sheet.specs.declared.turn.Turn.{Turn as Asked}
use Rattle.sheet.specs.declared.turn.Turn.TheVariants as asked
use Rattle.sheet.specs.declared.turn.Answer.{Answer as Told}
use Rattle.sheet.specs.declared.turn.Answer.TheVariants as told
use Rattle.sheet.specs.Turn.{Turn, Post, Narrow, Strike, ReadModel, ReadRange, ReadAccount}
use Rattle.sheet.specs.Turn.{Answer, Posted, Narrowed, Struck, ModelIs, RangeIs, PairsAre}

-- a turn that is lent so many working records
abbrev pub turn_of : ℕ → Asked → Turn
turn_of records (asked.Post office text) = Post office records text.now
turn_of records (asked.Narrow office v x y) = Narrow office records v x y
turn_of records (asked.Strike office) = Strike office
turn_of records (asked.ReadModel n) = ReadModel n
turn_of records (asked.ReadRange n) = ReadRange n
turn_of records (asked.ReadAccount office) = ReadAccount office

abbrev pub answer_of : Told → Answer
answer_of (told.Posted n pairs clean) = Posted n pairs clean
answer_of (told.Narrowed lines pairs) = Narrowed lines pairs
answer_of told.Struck = Struck
answer_of (told.ModelIs r) = ModelIs (unpacked r)
answer_of (told.RangeIs i) = RangeIs i
answer_of (told.PairsAre n) = PairsAre n
