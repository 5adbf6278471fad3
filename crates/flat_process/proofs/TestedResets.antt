-- What the condition of a first branch tests.
use Rattle.std.proofs.Common.{◌≡◌, ℕ, Bool, true, false, List, [], ◌∷◌, Option, Some, None, sym, ap, ap₂, ◌∙◌, Vec, Global}
use Rattle.std.specs.Prelude.{is_some, option_map}
use Rattle.verilog_reading.specs.ExprTree.{ExprTree}
use Rattle.verilog_reading.specs.StmtTree.{ArmTrees}
use Rattle.flat_unfolding.specs.Names.{Look}
use Rattle.flat_unfolding.specs.Resets as q
use Rattle.flat_unfolding.specs.Resets.{reset_signals, tested_signals, resets_in, labels_met, tests_one, tests_all, tested, tested_with, item_tested}
use Rattle.flat_targets.proofs.Reading.{some-map}
use Rattle.flat_process.specs.Resets.{look_at}

abbrev tells : List ℕ → Bool → q.Tested
tells ss b = record { signals = ss; alone = b }

-- ---- the condition of an `if`

module _ (l : Look) (e : ExprTree) where
  pub tests-none : None ≡ tested_signals l e → None ≡ tested l e
  tests-none h = ap (λ (o : Option (List ℕ)). option_map (λ ss. tells ss (is_some (reset_signals l e))) o) h

  pub tests-some : (ss : List ℕ) (b : Bool) (o : Option (Vec ℕ Global)) → Some ss ≡ tested_signals l e → b ≡ is_some o → option_map (λ (v : Vec ℕ Global). v.items) o ≡ reset_signals l e → Some (tells ss b) ≡ tested l e
  tests-some ss b o h i j =
      let alone : b ≡ is_some (reset_signals l e) = i ∙ sym (some-map (λ (v : Vec ℕ Global). v.items) o) ∙ ap is_some j in
      ap₂ (λ (p : Option (List ℕ)) a. option_map (λ ss. tells ss a) p) h alone

-- ---- the first item of a `casez`

module _ (l : Look) (e : ExprTree) (rows : ArmTrees) where
  abbrev inactive : Option (List Bool)
  inactive = labels_met (look_at l false) e rows

  abbrev active : Option (List Bool)
  active = labels_met (look_at l true) e rows

  pub no-item : None ≡ resets_in l e → None ≡ item_tested l e rows
  no-item h = ap (λ o. tested_with l o inactive active) h

  pub an-item : (o : Option (List ℕ)) (m n : Option (List Bool)) (p : Option q.Tested) → p ≡ tested_with l o m n → o ≡ resets_in l e → m ≡ inactive → n ≡ active → p ≡ item_tested l e rows
  an-item o m n p d h i j = d ∙ ap₂ (λ x y. tested_with l x y n) h i ∙ ap (tested_with l (resets_in l e) inactive) j

-- ---- one label after another

pub no-more : (xs ys rest : List Bool) (x : Bool) (t : Bool) → xs ≡ x ∷ rest → ys ≡ [] → tests_one xs ys ≡ t → false ≡ t
no-more xs ys rest x t h i e = ap₂ tests_one (sym h) (sym i) ∙ e
