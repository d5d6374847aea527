-- Layers kept in lent numbers. Definitions only. Assumes nothing.
use Rattle.std.specs.Prelude.{◌≡◌, List, ℕ, ◌+◌, ◌*◌, ◌-◌, ◌/◌, ◌≤◌, ◌<◌, get_or, length, ℤ, pos}
use Rattle.cases.specs.Limits.{long_work}
use Rattle.machine.specs.Coded.{coded}
use Rattle.machine.specs.declared.Unit.{Unit}
use Rattle.machine.specs.Moves.{Tariff, running, worth, Worths}
use Rattle.cells.specs.Table.{SideCell, Layer, cells_of}
use Rattle.machine.specs.Lengths.{side_length}

-- a row at off, with j hours to go before a stop may begin
pub record RowAt (u : Unit) (w : Worths) (j off : ℕ) (xs : List ℤ) : Type 0 where
  pub at : (i : ℕ) → i < cells_of u → get_or xs (off + i) (pos 0) ≡ coded (w (running (u.minimum.0 + i) j))

-- a layer at off: its cells, and its side after them
pub record SavedAt (u : Unit) (w : Worths) (off : ℕ) (xs : List ℤ) : Type 0 where
  pub row : RowAt u w 0 off xs
  pub side : (c : ℕ) → c < side_length → SideCell u w c (get_or xs (off + cells_of u + c) (pos 0))

-- a layer is put at off, and nothing else is changed
pub record Kept (u : Unit) (w : Worths) (off : ℕ) (xs zs : List ℤ) : Type 0 where
  pub long : length zs ≡ length xs
  pub saved : SavedAt u w off zs
  pub below : (i : ℕ) → i < off → get_or zs i (pos 0) ≡ get_or xs i (pos 0)
  pub above : (i : ℕ) → off + (cells_of u + side_length) ≤ i → get_or zs i (pos 0) ≡ get_or xs i (pos 0)

-- every l-th layer has a slot of n numbers among m
pub record Slotted (u : Unit) (l n m : ℕ) : Type 0 where
  pub stride_pos : 1 ≤ l
  pub stride_le : l ≤ u.hours.0
  pub width : n ≡ cells_of u + side_length
  pub most : m ≤ long_work
  pub room : (s : ℕ) → s * l < u.hours.0 → s * n + n ≤ m

-- the first slot whose hour is not before hour k, where every l-th hour has one
abbrev pub slot_from : ℕ → ℕ → ℕ
slot_from l k = (k + l - 1) / l

-- every l-th layer from hour a on, each in its slot
pub record Saved (u : Unit) (day : ℕ → Tariff) (l n a : ℕ) (xs : List ℤ) : Type 0 where
  pub at : (s : ℕ) → a ≤ s * l → s * l < u.hours.0 → SavedAt u (worth u day (s * l)) (s * n) xs

-- a layer at hour h, not before hour k
pub record Based (u : Unit) (day : ℕ → Tariff) (k h : ℕ) (xs ys : List ℤ) : Type 0 where
  pub from : k ≤ h
  pub to : h ≤ u.hours.0
  pub layer : Layer u (worth u day h) xs ys
