-- Bits of a word that flops copy, marked by their places.
use Rattle.std.proofs.Common.{◌≡◌, ◌∙◌, ℕ, ◌+◌, ◌<◌, ◌==◌, Bool, true, false, cond, List, [], ◌∷◌, ◌++◌, length, take, drop, get_or, set, ap, sym, subst, arith}
use Rattle.std.specs.List.{list_any}
use Rattle.std.proofs.lemmas.Bool.{cases_eq}
use Rattle.std.proofs.lemmas.Grind.{common_steps}
use Rattle.std.proofs.lemmas.List.{drop_more, take_more, get_or-set_same, get_or-set_other}
use Rattle.std.proofs.lemmas.List.Folds.{list_any_more}
use Rattle.cdc_model.specs.declared.scheme.Crossing.{Crossing}
use Rattle.report.specs.Findings.{bits_copied}

abbrev pub AreMarked : List Bool → List Crossing → Type 0
AreMarked copied flops = (at : ℕ) → at < 256 → get_or copied at false ≡ list_any (λ g. g.from.at == at) flops

-- the next flop's bit is marked
pub mark-set : (copied : List Bool) (flops : List Crossing) (i k : ℕ) (d : Crossing) → i < length flops → length copied ≡ 256 → k < 256 → k ≡ (get_or flops i d).from.at
    → AreMarked copied (take i flops) → AreMarked (set copied k true) (take (i + 1) flops)
mark-set copied flops i k d within long small is marked =
    λ at h. let before = marked at h in
    let more = list_any_more (λ g. g.from.at == at) flops i d within in
    let cases = cases_eq at k in
    grind (arith, common_steps, get_or-set_same, get_or-set_other)

-- it was marked already
pub mark-kept : (copied : List Bool) (flops : List Crossing) (i k : ℕ) (d : Crossing) → i < length flops → k < 256 → k ≡ (get_or flops i d).from.at → get_or copied k false ≡ true
    → AreMarked copied (take i flops) → AreMarked copied (take (i + 1) flops)
mark-kept copied flops i k d within small is already marked =
    λ at h. let before = marked at h in
    let more = list_any_more (λ g. g.from.at == at) flops i d within in
    let cases = cases_eq at k in
    grind (arith, common_steps)

-- one more bit, unless it was marked
pub count-more : (copied : List Bool) (flops : List Crossing) (i k count : ℕ) (d : Crossing) (b : Bool) → i < length flops → k < 256 → k ≡ (get_or flops i d).from.at
    → AreMarked copied (take i flops) → get_or copied k false ≡ b → bits_copied [] flops ≡ count + bits_copied (take i flops) (drop i flops)
    → bits_copied [] flops ≡ (count + cond b 0 1) + bits_copied (take (i + 1) flops) (drop (i + 1) flops)
count-more copied flops i k count d b within small is marked already counted =
    let same : list_any (λ g. g.from.at == (get_or flops i d).from.at) (take i flops) ≡ b =
    sym (marked _ (subst (λ n. n < 256) is small)) ∙ ap (λ n. get_or copied n false) (sym is) ∙ already in
    counted ∙ ap (λ fs. count + bits_copied (take i flops) fs) (drop_more flops i d within)
    ∙ ap (λ a. count + (cond a 0 1 + bits_copied (take i flops ++ get_or flops i d ∷ []) (drop (i + 1) flops))) same
    ∙ ap (λ fs. count + (cond b 0 1 + bits_copied fs (drop (i + 1) flops))) (sym (take_more flops i d within))
    ∙ omega arith
