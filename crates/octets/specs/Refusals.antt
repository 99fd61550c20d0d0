-- The number of each refusal ("When the layer says no", document 01, and the requests). Assumes nothing.
use Rattle.std.specs.Prelude.{ℕ, ◌≡◌}
use Rattle.octets.specs.declared.Refusal.{Refusal}
use Rattle.octets.specs.declared.Refusal.TheVariants.{FrameShort, FrameLong, TagCut, TagTwice, ReservedVlan, TagThere, ResultLong, OutputShort, NoTag, EntryKind, EntryCut, EntryRange, TooManyEntries, Unsound, NoRule, HistoryRange, TimeoutRange, RateRange, PathsRange, CardKind, CardCut, CalibrationRange, EventKind, EventCut, SetupMisplaced, TapeLong, TakenOrUse, WrongCheck, PathId}

-- "It returns the number alone"
unfoldable pub number : Refusal → ℕ
number FrameShort = 1
number FrameLong = 2
number TagCut = 3
number TagTwice = 4
number ReservedVlan = 5
number TagThere = 6
number ResultLong = 7
number OutputShort = 8
number NoTag = 9
number EntryKind = 10
number EntryCut = 11
number EntryRange = 12
number TooManyEntries = 13
number Unsound = 14
number NoRule = 15
number HistoryRange = 16
number TimeoutRange = 17
number RateRange = 18
number PathsRange = 19
number CardKind = 20
number CardCut = 21
number CalibrationRange = 22
number EventKind = 23
number EventCut = 24
number SetupMisplaced = 25
number TapeLong = 26
number TakenOrUse = 27
number WrongCheck = 28
number PathId = 37

-- the promise of `number`
abbrev pub Numbers : Refusal → ℕ → Type 0
Numbers refusal r = r ≡ number refusal
