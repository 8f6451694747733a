-- THE LIMIT OF A FILE OF NAMES by its numeral: its offsets have 32 bits. From there on an index is not built, 62, and none is right, 63. Assumes nothing.
use mathlib.Core.Path.{◌≡◌}
use mathlib.Core.List.{List}
use Prim.Native.Nat.{ℕ, ◌≤◌, ◌<◌}
use borrow.Author.Tests.{le-leb, lt-leb}
use lib.ListN.{length}
use Rattle.definition.specs.Entry.{refusal}
use Rattle.definition.specs.Reading.{refuses}
use Rattle.definition_names.specs.Names.{named, indexed, in_room, against, build, check}

module _ (file : List ℕ) where
  pub build_long : (room : ℕ) → 0x100000000 ≤ length file → build file room ≡ refuses (refusal 62 0 0 0 0)
  unfolding build
  build_long room h = rw (le-leb 0x100000000 (length file) h)

  pub build_reached : (room : ℕ) → length file < 0x100000000 → build file room ≡ in_room room (indexed (named file))
  unfolding build
  build_reached room h = rw (lt-leb 0x100000000 (length file) h)

  pub check_long : (index : List ℕ) → 0x100000000 ≤ length file → check file index ≡ refuses (refusal 63 0 0 0 0)
  unfolding check
  check_long index h = rw (le-leb 0x100000000 (length file) h)

  pub check_reached : (index : List ℕ) → length file < 0x100000000 → check file index ≡ against index (indexed (named file))
  unfolding check
  check_reached index h = rw (lt-leb 0x100000000 (length file) h)
