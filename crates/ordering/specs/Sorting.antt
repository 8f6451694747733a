-- A heap in a list, what sinking an element does, and what sorting does. `le` is the order.
use Rattle.std.specs.Prelude.{ℕ, ◌+◌, ◌≤◌, ◌<◌, ◌≡◌, Bool, true, false, List, length, get_or, set}
use Rattle.definition_names.specs.IsIndex.{Perm, Rising}

-- the elements at i and j exchanged
unfoldable pub swapped : List ℕ → ℕ → ℕ → List ℕ
swapped l i j = set (set l i (get_or l j 0)) j (get_or l i 0)

module _ (le : ℕ → ℕ → Bool) where
  -- k is a child of p in a heap
  abbrev pub Child : ℕ → ℕ → Type 0
  Child p k = (p + p + 1 ≤ k) × (k ≤ p + p + 2)

  -- the element at i does not come after the one at j
  abbrev pub Le : List ℕ → ℕ → ℕ → Type 0
  Le a i j = le (get_or a i 0) (get_or a j 0) ≡ true

  -- from `lo` on, no child of the first n comes after its parent
  abbrev pub Heap : List ℕ → ℕ → ℕ → Type 0
  Heap a lo n = (p k : ℕ) → lo ≤ p → k < n → Child p k → Le a k p

  -- so but for the parent i, whose own parent is above i's children
  abbrev pub Holed : List ℕ → ℕ → ℕ → ℕ → Type 0
  Holed a lo i n =
      ((p k : ℕ) → lo ≤ p → k < n → Child p k → (p ≡ i → ⊥) → Le a k p)
      × ((p k : ℕ) → lo ≤ p → k < n → Child p i → Child i k → Le a k p)

  -- of the first n, none comes after x
  abbrev pub Under : List ℕ → ℕ → ℕ → Type 0
  Under a n x = (k : ℕ) → k < n → le (get_or a k 0) x ≡ true

  -- b is a after the element at i sank into the heap of the first n
  pub record Sifted (a : List ℕ) (i n : ℕ) (b : List ℕ) : Type 0 where
    pub heap : (lo : ℕ) → lo ≤ i → Holed a lo i n → Heap b lo n
    pub perm : Perm b a
    pub size : length b ≡ length a
    pub rest : (k : ℕ) → n ≤ k → get_or b k 0 ≡ get_or a k 0
    pub under : (x : ℕ) → Under a n x → Under b n x

  -- r is the child of i after which no other of the first n comes
  pub record Greatest (a : List ℕ) (i n r : ℕ) : Type 0 where
    pub inside : r < n
    pub child : Child i r
    pub most : (k : ℕ) → k < n → Child i k → Le a k r

  -- b is a made a heap
  pub record Heaped (a b : List ℕ) : Type 0 where
    pub heap : Heap b 0 (length b)
    pub perm : Perm b a
    pub size : length b ≡ length a

  -- no element before the j-th comes after it, for each j from m up to n
  abbrev pub Done : List ℕ → ℕ → ℕ → Type 0
  Done a m n = (i j : ℕ) → m ≤ j → i < j → j < n → Le a i j

  -- b is a sorted
  pub record Sorted (a b : List ℕ) : Type 0 where
    pub order : Done b 0 (length b)
    pub perm : Perm b a
    pub size : length b ≡ length a

  -- an element stands at or before the one before it
  pub record Falls (l : List ℕ) : Type 0 where
    pub at : ℕ
    pub inside : at + 1 < length l
    pub falls : Le l (at + 1) at

  -- r: the list rises
  abbrev pub RisingIs : List ℕ → Bool → Type 0
  RisingIs l true = Rising le l
  RisingIs l false = Falls l
