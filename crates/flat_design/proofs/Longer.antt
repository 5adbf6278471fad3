-- Parameters and declarations leave no fewer signals.
use Rattle.std.proofs.Common.{◌≡◌, ℕ, ◌+◌, ◌≤◌, false, not, ◌&&◌, nat_lt, List, [], ◌∷◌, ◌++◌, length, map, Option, Some, None, sym, subst, arith}
use Rattle.cdc_base.specs.declared.fault.Place.{Place}
use Rattle.verilog_reading.specs.SourceTree.{ParamTree, DeclTree, ModuleTree}
use Rattle.flat_unfolding.specs.Outcome.{Text, good, then_, each, refused_if, judged}
use Rattle.flat_unfolding.specs.Names.{Names, a_signal, a_memory, Range, Entry}
use Rattle.flat_unfolding.specs.Memories.{word_names}
use Rattle.flat_unfolding.specs.Parameters.{Overrides, range_read, parameter_order, parameter, params_of, parameters}
use Rattle.flat_unfolding.specs.Declarations.{Site, entry, taken_names, is_plain_port, added, add_declared, declared_again, declaration_order, declaration, declaration_rules, has_direction, again, array_read, header_of, header_twice, directed, sites, declarations}
use Rattle.flat_unfolding.specs.Design.{Design, Stage, look_of}
use Rattle.flat_unfolding.proofs.Steps.{good_is, good_then, judged_is, each_keeps}
use Rattle.flat_unfolding.specs.Unfolding.{with_resets}
use Rattle.flat_unfolding.proofs.Entries.{same_length, length_of_both}
use Rattle.flat_design.specs.Visiting.{begun}
use Rattle.flat_design.proofs.Fits.{resets-length}

abbrev HasMore : ℕ → Stage → Type 0
HasMore c s = c ≤ length s.design.entries

added-more : (c : ℕ) (s : Stage) (es : List Entry) (names : Names) (t : Stage) → added s es names ≡ good t → HasMore c s → HasMore c t
added-more c s es names t e h =
    let more : Stage = record { names = s.names ++ names; design = record s.design { entries = s.design.entries ++ es } } in
    let g = good_then (refused_if (nat_lt 1048576 (length s.design.entries + length es)) 601 None []) (λ u. good more) t e in
    subst (HasMore c) (good_is more t g.2) (let l = length_of_both s.design.entries es in let m : c ≤ length (s.design.entries ++ es) = omega (arith, h, l) in m)

declared-more : (c : ℕ) (s : Stage) (at : Site) (d : DeclTree) (r : Option Range) (a n : Option ℕ) (t : Stage) → add_declared s at d r a n ≡ good t → HasMore c s → HasMore c t
declared-more c s at d r (Some i) n t e h = subst (HasMore c) (good_is _ t e) (subst (λ k. c ≤ k) (sym (same_length (declared_again d.kind) i s.design.entries)) h)
declared-more c s at d r None (Some n) t e h =
    let words = word_names d.name 0 n in
    added-more c s (map (entry at d.kind r false) words) (taken_names words ++ ((d.name, a_memory (record { first = length s.design.entries; words = n })) ∷ [])) t e h
declared-more c s at d r None None t e h =
    added-more c s (entry at d.kind r (is_plain_port d.kind && not at.in_header) d.name ∷ []) ((d.name, a_signal (length s.design.entries)) ∷ []) t e h

declaration-more : (c : ℕ) (s : Stage) (q : Site × DeclTree) (t : Stage) → declaration s q ≡ good t → HasMore c s → HasMore c t
declaration-more c s q t e h = let g = good_then (judged declaration_order q.0.place (declaration_rules (look_of s) q.0 q.1) (tt {0}))
    (λ u. add_declared s q.0 q.1 (range_read (look_of s) q.1.name q.1.range).range (again (look_of s) q.1) (array_read (look_of s) q.1 q.1.array).count) t e in
    declared-more c s q.0 q.1 (range_read (look_of s) q.1.name q.1.range).range (again (look_of s) q.1) (array_read (look_of s) q.1 q.1.array).count t g.2 h

directed-more : (c : ℕ) (m : ModuleTree) (s : Stage) (x : Text) (t : Stage) → directed m s x ≡ good t → HasMore c s → HasMore c t
directed-more c m s x t e h = let g = good_then (refused_if (not (has_direction (look_of s) x)) 306 (Some m.place) x) (λ u. good s) t e in subst (HasMore c) (good_is s t g.2) h

parameter-more : (c : ℕ) (given : Overrides) (s : Stage) (q : Place × ParamTree) (t : Stage) → parameter given s q ≡ good t → HasMore c s → HasMore c t
parameter-more c given s q t e h = subst (HasMore c) (judged_is parameter_order q.0 _ _ t e).1 h

pub begun-more : (given : Overrides) (m : ModuleTree) (prefix : Text) (d : Design) (t : Stage) → begun given prefix m d ≡ good t → length d.entries ≤ length t.design.entries
begun-more given m prefix d t e =
    let c = length d.entries in
    let first : Stage = record { names = []; design = d } in
    let a = good_then (parameters given m first) (λ (s : Stage). then_ (declarations prefix m s) (λ (u : Stage). good (with_resets c u))) t e in
    let r = good_then (declarations prefix m a.0) (λ (u : Stage). good (with_resets c u)) t a.2 in
    let b = good_then (header_twice m) _ r.0 r.1 in
    let g = good_then (each declaration a.0 (sites prefix m)) (λ (s : Stage). each (directed m) s (header_of m)) r.0 b.2 in
    subst (HasMore c) (good_is (with_resets c r.0) t r.2) (subst (λ (k : ℕ). c ≤ k) (sym (resets-length c r.0))
    (each_keeps (HasMore c) (directed m) (directed-more c m) g.0 (header_of m) r.0 g.2
    (each_keeps (HasMore c) declaration (declaration-more c) a.0 (sites prefix m) g.0 g.1
    (each_keeps (HasMore c) (parameter given) (parameter-more c given) first (params_of m) a.0 a.1 (let l : c ≤ c = omega arith in l)))))
