-- What a process in the midst of its execution reads.
use Rattle.std.proofs.Common.{◌≡◌, ℕ, Bool, true, false, cond, List, Option, Some, None, is_some, ◌==◌, slice_get, unwrap_or, refl, sym, ap, subst, ◌∙◌, eqb-true}
use Rattle.std.proofs.lemmas.Option.{same_Some}
use Rattle.std.specs.Option.{option_map_or}
use Rattle.cell_graph.specs.declared.cell.CellId.{CellId}
use Rattle.cell_graph.specs.Tree.{Tree, Const}
use Rattle.flat_meaning.specs.Trees.{Selects, Trees, cut}
use Rattle.flat_meaning.specs.Law.{present}
use Rattle.driver_trees.specs.declared.draft.Draft.{Draft}
use Rattle.driver_trees.specs.declared.present.Present.{Present}
use Rattle.driver_trees.specs.Drafts.{tree_in}
use Rattle.driver_trees.specs.Presents.{present_of, is_target, looks, trees_of, Sees}
use Rattle.driver_trees.specs.Changes.{IsWordOf, IsProcess, Assigns, look_of}
use Rattle.driver_trees.specs.Growth.{Grows}
use Rattle.driver_trees.proofs.Merges.{word_same}
use Rattle.driver_trees.proofs.Stays.{word_grows}

module _ (wid : ℕ → ℕ) (ds : List Draft) (p : Present) (target : ℕ → Bool) (ts : Selects → Trees) (h : IsProcess wid ds p target ts) where
  seen : (sel : Selects) (s at w : ℕ) (b : Bool) (o : Option CellId) → is_some o ≡ target s → ((id : CellId) → o ≡ Some id → tree_in sel ds id ≡ ts sel s)
      → cond b (λ s at w. cond (target s) (cut (wid s) at w (ts sel s)) (sel s at w)) sel s at w
      ≡ cond b (λ t at w. cond (is_some o) (cut (wid s) at w (option_map_or (tree_in sel ds) o (Const 0 0))) (sel s at w)) sel s at w
  seen sel s at w false o e f = refl
  seen sel s at w true None e f = ap (λ b. cond b (cut (wid s) at w (ts sel s)) (sel s at w)) (sym e)
  seen sel s at w true (Some id) e f = ap (λ b. cond b (cut (wid s) at w (ts sel s)) (sel s at w)) (sym e) ∙ ap (cut (wid s) at w) (sym (f id refl))

  pub process_sees : Sees wid ds p (λ sel. look_of wid p.blocking target sel (ts sel))
  process_sees = record {
    words = h.words;
    widths = h.widths;
    trees = λ s id e. (h.trees s id e).place;
    looks = λ sel s at w l. seen sel s at w p.blocking (present_of p s) (h.targets s) (λ id e. (h.trees s id e).tree sel) ∙ last sel s at w p.blocking;
  }
    where
      last : (sel : Selects) (s at w : ℕ) (b : Bool) → cond b (λ t at w. cond (is_some (present_of p s)) (cut (wid s) at w (option_map_or (tree_in sel ds) (present_of p s) (Const 0 0))) (sel s at w)) sel s at w
          ≡ cond b (present wid sel (is_target p) (trees_of sel ds p)) sel s at w
      last sel s at w true = refl
      last sel s at w false = refl

-- one signal is assigned
module _ (wid : ℕ → ℕ) (ds es : List Draft) (g : Grows wid ds es) (p q : Present) (target : ℕ → Bool) (ts us : Selects → Trees) where
  pub assigned_process : (k : ℕ) (id : CellId) → IsProcess wid ds p target ts → Assigns p q (λ x. x == k) → ((x : ℕ) → present_of q x ≡ cond (x == k) (Some id) (present_of p x))
      → IsWordOf wid es id k us → ((sel : Selects) (x : ℕ) → (x == k) ≡ false → us sel x ≡ ts sel x) → IsProcess wid es q target us
  assigned_process k id h a e word same = record {
    words = h.words;
    drafts = g.drafts;
    widths = λ s. ap (λ ws. unwrap_or (slice_get ws s) 0) a.widths ∙ h.widths s;
    targets = λ s. a.targets s ∙ h.targets s;
    trees = λ x i f. go x i (x == k) refl (sym (e x) ∙ f);
  }
    where
      go : (x : ℕ) (i : CellId) (b : Bool) → (x == k) ≡ b → cond b (Some id) (present_of p x) ≡ Some i → IsWordOf wid es i x us
      go x i true c f = subst (λ j. IsWordOf wid es j x us) (same_Some id i f) (subst (λ y. IsWordOf wid es id y us) (sym (eqb-true x k c)) word)
      go x i false c f = word_same wid es i x ts us (word_grows wid ds es g i x ts (h.trees x i f)) (λ sel. sym (same sel x c))

pub process_same : (wid : ℕ → ℕ) (ds : List Draft) (p : Present) (target : ℕ → Bool) (ts us : Selects → Trees) → IsProcess wid ds p target ts → ((sel : Selects) (x : ℕ) → ts sel x ≡ us sel x) → IsProcess wid ds p target us
process_same wid ds p target ts us h e = record { words = h.words; drafts = h.drafts; widths = h.widths; targets = h.targets; trees = λ x i f. word_same wid ds i x ts us (h.trees x i f) (λ sel. e sel x) }
