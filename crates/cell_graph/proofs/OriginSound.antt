-- The origin of a bit has its value.
use Rattle.std.proofs.Common.{◌≡◌, ℕ, ◌+◌, ◌-◌, Bool, true, false, cond, nat_lt, Some, None, refl}
use Rattle.cell_graph.specs.Reading.{Reading}
use Rattle.cell_graph.specs.Tree.{Tree, Const, Shl, Shr, Concat, Slice, Extend, width, bit_at, bit, number}
use Rattle.cell_graph.specs.Cofactor.{on_number}
use Rattle.cell_graph.specs.Origin.{const_of, origin, tree_bit}

module _ (r : Reading) where
  pub origin_sound : (t : Tree) (i : ℕ) → bit r t i ≡ tree_bit r (origin t i)
  origin_sound (Concat high low) i = go (nat_lt i (width low)) (origin_sound low i) (origin_sound high (i - width low))
    where
      go : (v : Bool) → bit r low i ≡ tree_bit r (origin low i) → bit r high (i - width low) ≡ tree_bit r (origin high (i - width low))
          → cond v (bit r low i) (bit r high (i - width low)) ≡ tree_bit r (cond v (origin low i) (origin high (i - width low)))
      go true h k = h
      go false h k = k
  origin_sound (Slice a at w) i = origin_sound a (at + i)
  origin_sound (Extend a w) i = go (nat_lt i (width a)) (origin_sound a i)
    where
      go : (v : Bool) → bit r a i ≡ tree_bit r (origin a i) → cond v (bit r a i) false ≡ tree_bit r (cond v (origin a i) None)
      go true h = h
      go false h = refl
  origin_sound (Shl a by) i = go by (λ n. origin_sound a (i - n))
    where
      two : (u v : Bool) (n : ℕ) → bit r a (i - n) ≡ tree_bit r (origin a (i - n))
          → cond u false (cond v (bit r a (i - n)) false) ≡ tree_bit r (cond u None (cond v (origin a (i - n)) None))
      two true v n h = refl
      two false true n h = h
      two false false n h = refl

      go : (by : Tree) → ((n : ℕ) → bit r a (i - n) ≡ tree_bit r (origin a (i - n)))
          → bit r (Shl a by) i ≡ tree_bit r (on_number (const_of by) (Some (Shl a by, i)) (λ n. cond (nat_lt i n) None (cond (nat_lt (i - n) (width a)) (origin a (i - n)) None)))
      go (Const w v) h = let n = number (bit_at v) w in two (nat_lt i n) (nat_lt (i - n) (width a)) n (h n)
      go _ h = refl
  origin_sound (Shr a by) i = go by (λ n. origin_sound a (i + n))
    where
      two : (v : Bool) (n : ℕ) → bit r a (i + n) ≡ tree_bit r (origin a (i + n)) → cond v (bit r a (i + n)) false ≡ tree_bit r (cond v (origin a (i + n)) None)
      two true n h = h
      two false n h = refl

      go : (by : Tree) → ((n : ℕ) → bit r a (i + n) ≡ tree_bit r (origin a (i + n)))
          → bit r (Shr a by) i ≡ tree_bit r (on_number (const_of by) (Some (Shr a by, i)) (λ n. cond (nat_lt (i + n) (width a)) (origin a (i + n)) None))
      go (Const w v) h = let n = number (bit_at v) w in two (nat_lt (i + n) (width a)) n (h n)
      go _ h = refl
  origin_sound _ i = refl
