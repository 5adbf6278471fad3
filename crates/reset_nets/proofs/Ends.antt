-- The ends of a graph's last vertex, as they grow.
use Rattle.std.proofs.Common.{◌≡◌, ℕ, ◌+◌, ◌<◌, List, [], ◌∷◌, ◌++◌, length, map, drop, get_or, Result, Ok, Err, OnOk, sym, ap, ◌∙◌}
use Rattle.std.proofs.lemmas.List.{drop_more}
use Rattle.driver_loops.specs.Links.{extended}
use Rattle.driver_loops.proofs.Rows.{extended-nothing, extended-twice, extended-begun}
use Rattle.flat_form.specs.declared.flat.FExpr.{FExpr}
use Rattle.flat_form.specs.View.{expr_of, exprs_of}
use Rattle.reset_nets.specs.Nets.{reads_of, all_reads_of}

pub on_ok : {T E : Type 0} (r : Result T E) (P Q : Type 0) → (P → Q) → OnOk r P → OnOk r Q
on_ok (Ok v) P Q f h = f h
on_ok (Err e) P Q f h = tt

pub begun_ends : (rs : List (List ℕ)) (xs : List ℕ) → extended (rs ++ [] ∷ []) xs ≡ rs ++ xs ∷ []
begun_ends = extended-begun

pub no_ends : (rs : List (List ℕ)) (xs : List ℕ) → xs ≡ [] → rs ≡ extended rs xs
no_ends rs xs e = sym (ap (extended rs) e ∙ extended-nothing rs)

-- some ends and then some more
pub more_ends : (rs mid new : List (List ℕ)) (xs ys zs : List ℕ) → mid ≡ extended rs xs → new ≡ extended mid ys → zs ≡ xs ++ ys → new ≡ extended rs zs
more_ends rs mid new xs ys zs first second is = second ∙ ap (λ r. extended r ys) first ∙ extended-twice rs xs ys ∙ ap (extended rs) (sym is)

-- one expression more
pub ends_step : (all : List FExpr) (k : ℕ) (x : FExpr) (now new whole : List (List ℕ)) → k < length all → x ≡ get_or all k x → new ≡ extended now (reads_of (expr_of x))
    → extended now (all_reads_of (exprs_of (map expr_of (drop k all)))) ≡ whole → extended new (all_reads_of (exprs_of (map expr_of (drop (k + 1) all)))) ≡ whole
ends_step all k x now new whole l at e h =
    ap (λ r. extended r (all_reads_of (exprs_of (map expr_of (drop (k + 1) all))))) e
    ∙ extended-twice now (reads_of (expr_of x)) (all_reads_of (exprs_of (map expr_of (drop (k + 1) all))))
    ∙ sym (ap (λ (ys : List FExpr). extended now (all_reads_of (exprs_of (map expr_of ys)))) (drop_more all k x l ∙ ap (λ (z : FExpr). z ∷ drop (k + 1) all) (sym at)))
    ∙ h

pub ends_done : (all rest : List FExpr) (now whole : List (List ℕ)) → rest ≡ [] → extended now (all_reads_of (exprs_of (map expr_of rest))) ≡ whole → now ≡ whole
ends_done all rest now whole none h = sym (extended-nothing now) ∙ sym (ap (λ (ys : List FExpr). extended now (all_reads_of (exprs_of (map expr_of ys)))) none) ∙ h
