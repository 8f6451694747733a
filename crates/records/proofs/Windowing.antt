-- A row of which nothing is lent leaves all as it is. Assumes nothing.
use Rattle.std.specs.Prelude.{if◌then◌else◌}
use Rattle.std.proofs.Common.{◌≡◌, ℕ, ◌-◌, ◌*◌, ◌<◌, ◌≤◌, Bool, true, false, ltb, List, length, sym, refl, arith, le-ltb, lt-ltb}
use Rattle.buffers.specs.Over.{over}
use Rattle.buffers.proofs.Over.{over_out}
use Rattle.records.specs.declared.Window.{Window}
use Rattle.records.specs.Rows.{windowed}

module _ (v : Window) (fields : ℕ) (ns rows : List ℕ) where
  pub none_lent : length rows ≡ 0 → rows ≡ windowed v fields ns rows
  unfolding windowed
  none_lent l = go (ltb fields v.skip)
    where
      go : (b : Bool) → rows ≡ (if b then rows else over rows ((fields - v.skip) * 10) ns)
      go true = refl
      go false = sym (over_out rows _ _ (omega arith))

  pub left_out : fields < v.skip → rows ≡ windowed v fields ns rows
  unfolding windowed
  left_out h = rw (lt-ltb fields v.skip h)

  pub shown : (rows' : List ℕ) → v.skip ≤ fields → rows' ≡ over rows ((fields - v.skip) * 10) ns → rows' ≡ windowed v fields ns rows
  unfolding windowed
  shown rows' h e = rw (le-ltb fields v.skip h) e
