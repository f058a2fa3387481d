-- The ends and texts that stand: told by the opening, the turns, and which of them were accepted. Assumes nothing.
use Rattle.std.specs.Prelude.{ℕ, ◌-◌, cond, List, [], ◌∷◌, ◌++◌, length, take, is_ok, fold, slice_set}
use Rattle.sheet.specs.Box.{Ends}
use Rattle.sheet.specs.Opening.{Opening}
use Rattle.sheet.specs.Turn.{Turn, Post, Narrow, Strike, ReadModel, ReadRange, ReadAccount}
use Rattle.sheet.specs.Reached.{Event, Log}

pub record Standing : Type 0 where
  pub ends : Ends
  pub texts : List (List ℕ)

abbrev pub stand : Ends → List (List ℕ) → Standing
stand es ts = record { ends = es; texts = ts }

-- a posting adds its text last, a narrowing replaces its variable's two ends, a striking removes the last text
abbrev pub changed : Standing → Turn → Standing
changed what (Post office records text) = stand what.ends (what.texts ++ (text ∷ []))
changed what (Narrow office records v x y) = stand (slice_set what.ends v (x, y)) what.texts
changed what (Strike office) = stand what.ends (take (length what.texts - 1) what.texts)
changed what (ReadModel n) = what
changed what (ReadRange n) = what
changed what (ReadAccount office) = what

-- a refused turn changes nothing
abbrev pub after : Standing → Event → Standing
after what e = cond (is_ok e.answer) (changed what e.turn) what

-- what stands after an opening and the turns of a log
abbrev pub standing : Opening → Log → Standing
standing given log = fold after (stand given.ends []) log
