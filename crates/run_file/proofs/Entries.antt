-- The entries of an object, one more.
use Rattle.std.proofs.Common.{◌≡◌, ◌∙◌, List, [], ◌∷◌, ◌++◌, Result, Ok, Err, refl, sym, ap, append_assoc}
use Rattle.std.specs.Prelude.{String, string_bytes}
use Rattle.std.specs.declared.alloc.Global.{Global}
use Rattle.cdc_base.specs.declared.fault.Fault.{Fault}
use Rattle.serde_json.specs.Data.{Members, member}
use Rattle.serde_json.specs.View.{view, members_view}
use Rattle.serde_json.specs.declared.value.Value.{Value}
use Rattle.clock_constraints.specs.Refusals.{◌>>=◌}
use Rattle.run_file.specs.declared.document.Entry.{Entry}
use Rattle.run_file.specs.Values.{entry, entries_of}

pub next-entry : (all : Members) (found : List Entry) (s t : List (String Global × Value)) (k : String Global) (v : Value) (e : Entry) → s ≡ (k, v) ∷ t → entry (string_bytes k) (view v) ≡ Ok e
    → entries_of all ≡ (entries_of (members_view s) >>= (λ rest. Ok (found ++ rest)))
    → entries_of all ≡ (entries_of (members_view t) >>= (λ rest. Ok ((found ++ e ∷ []) ++ rest)))
next-entry all found s t k v e is one before =
    before ∙ ap (λ s. entries_of (members_view s) >>= (λ rest. Ok (found ++ rest))) is
    ∙ ap (λ r. (r >>= (λ x. entries_of (members_view t) >>= (λ xs. Ok (x ∷ xs)))) >>= (λ rest. Ok (found ++ rest))) one
    ∙ go (entries_of (members_view t))
  where
    go : (r : Result (List Entry) Fault) → ((r >>= (λ xs. Ok (e ∷ xs))) >>= (λ rest. Ok (found ++ rest))) ≡ (r >>= (λ rest. Ok ((found ++ e ∷ []) ++ rest)))
    go (Ok es) = ap Ok (sym (append_assoc found (e ∷ []) es))
    go (Err f) = refl
