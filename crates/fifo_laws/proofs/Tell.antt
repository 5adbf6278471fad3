-- What tests tell of the numbers: a test for full that holds, that the one side isn't a depth ahead; one for empty, that it isn't where the other one came.
use Rattle.std.proofs.Common.{◌≡◌, ◌≢◌, ℕ, suc, ◌+◌, ◌-◌, ◌^◌, ◌%◌, Bool, true, false, cond, List, [], ◌⊎◌, inl, inr, map, refl, sym, ap, subst, ◌∙◌, arith}
use Rattle.cell_graph.specs.Reading.{Reading}
use Rattle.cell_graph.specs.Tree.{Tree, bit}
use Rattle.cdc_model.specs.declared.scheme.GrayReg.{GrayReg}
use Rattle.cdc_model.specs.declared.scheme.Shape.{Shape}
use Rattle.cdc_model.specs.declared.scheme.Shape.TheVariants.{G1, G2, G3}
use Rattle.cdc_model.specs.Design.{Design, bits_from, word}
use Rattle.cdc_model.specs.Facts.{IsCoded}
use Rattle.cdc_model.specs.Gray.{increment, gray_code}
use Rattle.cdc_model.specs.GrayShape.{HasShape}
use Rattle.cdc_model.specs.Schemes.{Trees, Sync, last_flop}
use Rattle.cdc_model.specs.Word.{origins, own_word, values}
use Rattle.fifo_terms.specs.Codes.{Code, Next, count_at, count_in, IsHeld}
use Rattle.fifo_terms.specs.Counts.{number_of, binary}
use Rattle.fifo_terms.specs.Laws.{IsNotFull, IsNotEmpty, AreCodes}
use Rattle.fifo_terms.specs.Shows.{full_apart, empty_apart, IsTest, IsFlagTest}
use Rattle.fifo_terms.specs.Terms.{Term, holds, all_hold}
use Rattle.fifo_terms.proofs.Binary.{binary_length, next_binary, half_number}
use Rattle.fifo_terms.proofs.Codes.{next_held}
use Rattle.fifo_terms.proofs.Shows.{test_tells, flag_tells}
use Rattle.fifo_laws.specs.Laws.{AreLists}
use Rattle.fifo_laws.specs.Sides.{Side, IsSide, side_width, held_in, code_of, next_code_of, came_over}
use Rattle.fifo_laws.proofs.Sides.{gray_reg, own_values, came_values}

-- what codes of numbers tell
not_full : (r : Reading) (k : Code) (v n m : ℕ) → k.w ≡ suc v → count_in r k ≡ binary k.w n → IsNotFull r k (binary k.w m) → n ≢ m + 2 ^ v
not_full r k v n m wide is tells e = tells (ap number_of (is ∙ ap (binary k.w) e) ∙ subst (λ (w : ℕ). number_of (binary w (m + 2 ^ v)) ≡ (number_of (binary w m) + 2 ^ (w - 1)) % 2 ^ w) (sym wide)
    (half_number v m ∙ ap (λ i. (number_of (binary (suc v) m) + 2 ^ i) % 2 ^ suc v) (let q : v ≡ suc v - 1 = omega arith in q)))

not_empty : (r : Reading) (k : Code) (n m : ℕ) → count_in r k ≡ binary k.w n → IsNotEmpty r k (binary k.w m) → n ≢ m
not_empty r k n m is tells e = tells (ap number_of (is ∙ ap (binary k.w) e))

-- the number of the next count
abbrev pub counted : Bool → ℕ → ℕ
counted pushed n = cond pushed (n + 1) n

counted_word : (v : Bool) (w n : ℕ) (xs : List Bool) → xs ≡ binary w n → cond v (increment xs) xs ≡ binary w (counted v n)
counted_word true w n xs e = ap increment e ∙ next_binary w n
counted_word false w n xs e = e

module _ (d : Design) (tree : ℕ → Tree) (t : Trees) (syncs : List Sync) (grays : List GrayReg) (lists : AreLists d tree t syncs grays) (to : ℕ) (s : Side) (side : IsSide d tree syncs grays to s) (r : Reading) where
  -- the code is held where the register is a code of its counter
  pub held_now : IsCoded s.reg.shape (map r (word d s.reg.count)) (map r (word d s.reg.gray)) → IsHeld r (code_of d s)
  held_now c = go s.reg.shape c
    where
      code : values r (own_word s.reg.gray (side_width d s)) ≡ map r (word d s.reg.gray)
      code = own_values r s.reg.gray (side_width d s) 0 (side_width d s) ∙ ap (λ n. map r (bits_from s.reg.gray 0 n)) (sym (gray_reg d tree t syncs grays lists to s side).width.2)

      count : gray_code (map r (word d s.reg.count)) ≡ gray_code (values r (own_word s.reg.count (side_width d s)))
      count = ap gray_code (sym (own_values r s.reg.count (side_width d s) 0 (side_width d s)))

      go : (shape : Shape) → IsCoded shape (map r (word d s.reg.count)) (map r (word d s.reg.gray))
          → (held_in shape (own_word s.reg.gray (side_width d s)) ≡ []) ⊎ (values r (held_in shape (own_word s.reg.gray (side_width d s))) ≡ gray_code (values r (own_word s.reg.count (side_width d s))))
      go G1 e = inr (code ∙ e ∙ count)
      go G2 e = inr (code ∙ e ∙ count)
      go G3 e = inl refl

  -- and then so is the next code
  pub held_next : IsCoded s.reg.shape (map r (word d s.reg.count)) (map r (word d s.reg.gray)) → IsHeld r (next_code_of d tree s)
  held_next c = go s.reg.shape (gray_reg d tree t syncs grays lists to s side).shape c
    where
      w : ℕ
      w = side_width d s

      code : values r (own_word s.reg.gray (side_width d s)) ≡ map r (word d s.reg.gray)
      code = own_values r s.reg.gray (side_width d s) 0 (side_width d s) ∙ ap (λ n. map r (bits_from s.reg.gray 0 n)) (sym (gray_reg d tree t syncs grays lists to s side).width.2)

      count : gray_code (map r (word d s.reg.count)) ≡ gray_code (values r (own_word s.reg.count (side_width d s)))
      count = ap gray_code (sym (own_values r s.reg.count (side_width d s) 0 (side_width d s)))

      ahead : (shape : Shape) → shape ≢ G3 → HasShape shape s.reg.count s.reg.gray (side_width d s) (origins (tree s.reg.count) 0 (side_width d s)) (origins (tree s.reg.gray) 0 (side_width d s))
          → map r (word d s.reg.gray) ≡ gray_code (map r (word d s.reg.count)) → values r (origins (tree s.reg.gray) 0 (side_width d s)) ≡ gray_code (count_at r s.reg.count (side_width d s) (Next s.under))
      ahead shape ne h e = next_held r shape s.reg.count s.reg.gray (side_width d s) (origins (tree s.reg.count) 0 (side_width d s)) (origins (tree s.reg.gray) 0 (side_width d s)) s.under ne h side.counts (code ∙ e ∙ count)

      g1 : G1 ≢ G3
      g1 e = cc

      g2 : G2 ≢ G3
      g2 e = cc

      go : (shape : Shape) → HasShape shape s.reg.count s.reg.gray (side_width d s) (origins (tree s.reg.count) 0 (side_width d s)) (origins (tree s.reg.gray) 0 (side_width d s))
          → IsCoded shape (map r (word d s.reg.count)) (map r (word d s.reg.gray))
          → (held_in shape (origins (tree s.reg.gray) 0 (side_width d s)) ≡ []) ⊎ (values r (held_in shape (origins (tree s.reg.gray) 0 (side_width d s))) ≡ gray_code (count_at r s.reg.count (side_width d s) (Next s.under)))
      go G1 h e = inr (ahead G1 g1 h e)
      go G2 h e = inr (ahead G2 g2 h e)
      go G3 h e = inl refl

  -- in a reading whose counter is n, where the code of m came over from the other side
  module _ (far : Side) (v n m : ℕ) (wide : side_width d s ≡ suc v) (count : map r (word d s.reg.count) ≡ binary (side_width d s) n)
      (coded : IsCoded s.reg.shape (map r (word d s.reg.count)) (map r (word d s.reg.gray))) (came : map r (map last_flop far.over) ≡ gray_code (binary (side_width d s) m)) where
    counter : values r (own_word s.reg.count (side_width d s)) ≡ binary (side_width d s) n
    counter = own_values r s.reg.count (side_width d s) 0 (side_width d s) ∙ count

    are_codes : (k : Code) → k.w ≡ side_width d s → IsHeld r k → AreCodes r k (came_over d far) (binary k.w m)
    are_codes k e held = (omega (arith, e, wide), binary_length k.w m, held, came_values d r far ∙ came ∙ ap (λ w. gray_code (binary w m)) (sym e))

    -- a comparison with the code tells of n
    pub test_full : (t : Term) → IsTest (code_of d s) (came_over d far) full_apart t → holds r t ≡ true → n ≢ m + 2 ^ v
    test_full t p h = not_full r (code_of d s) v n m wide counter ((test_tells r (code_of d s) (came_over d far) (binary (side_width d s) m) t (are_codes (code_of d s) refl (held_now coded)) h).0 p)

    pub test_empty : (t : Term) → IsTest (code_of d s) (came_over d far) empty_apart t → holds r t ≡ true → n ≢ m
    test_empty t p h = not_empty r (code_of d s) n m counter ((test_tells r (code_of d s) (came_over d far) (binary (side_width d s) m) t (are_codes (code_of d s) refl (held_now coded)) h).1 p)

    -- a flag's next value tells of the next n
    pub flag_full : (t : Tree) (i : ℕ) (u : Bool) → IsFlagTest (next_code_of d tree s) (came_over d far) full_apart t i u → bit r t i ≡ u → counted (all_hold r s.under) n ≢ m + 2 ^ v
    flag_full t i u p e = not_full r (next_code_of d tree s) v (counted (all_hold r s.under) n) m wide
        (counted_word (all_hold r s.under) (side_width d s) n (values r (own_word s.reg.count (side_width d s))) counter)
        ((flag_tells r (next_code_of d tree s) (came_over d far) (binary (side_width d s) m) t i u (are_codes (next_code_of d tree s) refl (held_next coded)) e).0 p)

    pub flag_empty : (t : Tree) (i : ℕ) (u : Bool) → IsFlagTest (next_code_of d tree s) (came_over d far) empty_apart t i u → bit r t i ≡ u → counted (all_hold r s.under) n ≢ m
    flag_empty t i u p e = not_empty r (next_code_of d tree s) (counted (all_hold r s.under) n) m
        (counted_word (all_hold r s.under) (side_width d s) n (values r (own_word s.reg.count (side_width d s))) counter)
        ((flag_tells r (next_code_of d tree s) (came_over d far) (binary (side_width d s) m) t i u (are_codes (next_code_of d tree s) refl (held_next coded)) e).1 p)
