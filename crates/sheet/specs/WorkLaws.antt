-- What the work of one text keeps, as the sheet's promise cites it. Assumes nothing.
pub use Rattle.formula.specs.WorkLaws.{SoundLine, SoundLines, WorkSound, WholeLine, WorkWhole}
