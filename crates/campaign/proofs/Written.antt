-- The steps of a record as they are written.
use Rattle.std.proofs.Common.{◌≡◌, ◌∙◌, ◌++◌, ◌≤◌, zero, suc, drop, length, arith, Ok, Err, List, [], ◌∷◌, map, refl, ap, append_assoc}
use Rattle.std.specs.List.{AllZip}
use Rattle.std.specs.Prelude.{Result, IfOk, ⊤, codes, ℕ}
use Rattle.json.specs.Print.{print}
use Rattle.json.specs.Token.{Token}
use Rattle.json.specs.Tree.{json_tokens, items_tokens}
use Rattle.json.specs.Value.{items_of}
use Rattle.cell_graph.specs.declared.net.Net.{Net}
use Rattle.domains.specs.declared.Domains.{Domains}
use Rattle.cdc_model.specs.declared.record.Record.{Record}
use Rattle.cdc_model.specs.declared.record.RecordStep.{RecordStep}
use Rattle.campaign.specs.Lines.{step_value, IsOrdered, IsLine, HasStep, HasSteps}

-- the steps that were written, and the tokens with the end of their array
pub all-written : (net : Net) (domains : Domains) (ks : List RecordStep) (old new : List Token) → HasSteps net domains ks old new
    → (os : List RecordStep) × AllZip (IsOrdered net domains) ks os × (new ++ Token.end_array ∷ [] ≡ old ++ items_tokens (items_of (map (step_value net domains) os)))
all-written net domains [] old new h = ([], tt, ap (λ ts. ts ++ Token.end_array ∷ []) h)
all-written net domains (k ∷ ks) old new h =
    let p = all-written net domains ks (old ++ json_tokens (step_value net domains h.0)) new h.2 in
    (h.0 ∷ p.0, (h.1, p.1), p.2 ∙ append_assoc old (json_tokens (step_value net domains h.0)) (items_tokens (items_of (map (step_value net domains) p.0))))

-- the step that was written is the step in its orders
pub one-written : {E S : Type 0} (net : Net) (domains : Domains) (k o : RecordStep) (old new : List Token) (r : Result ⊤ E) → IfOk r (λ _. new ≡ old ++ json_tokens (step_value net domains o))
    → (S → IsOrdered net domains k o) → IfOk r (λ _. S → HasStep net domains k old new)
one-written net domains k o old new (Ok done) e h = λ s. (o, h s, e)
one-written net domains k o old new (Err f) e h = e

-- the line of a record is that of its steps in their orders
pub line-written : {E S : Type 0} (net : Net) (domains : Domains) (run : Record) (before after out : List Token) (r : Result (List ℕ) E)
    → before ≡ Token.begin_object ∷ Token.key (codes "steps") ∷ Token.begin_array ∷ [] → (S → HasSteps net domains run.steps before after)
    → out ≡ (after ++ Token.end_array ∷ []) ++ Token.end_object ∷ [] → IfOk r (λ text. text ≡ print out ++ codes "\n") → IfOk r (λ text. S → IsLine net domains run text)
line-written net domains run before after out (Ok text) begin steps end e = λ s.
    let w = all-written net domains run.steps before after (steps s) in (
      w.0,
      w.1,
      e ∙ ap (λ ts. print ts ++ codes "\n") (end ∙ ap (λ ts. ts ++ Token.end_object ∷ []) (w.2 ∙ ap (λ ts. ts ++ items_tokens (items_of (map (step_value net domains) w.0))) begin)),
    )
line-written net domains run before after out (Err f) begin steps end e = e

-- past the end of a list nothing is left
pub nothing-left : {A : Type 0} (xs : List A) (n : ℕ) → length xs ≤ n → drop n xs ≡ []
nothing-left [] zero h = refl
nothing-left [] (suc n) h = refl
nothing-left (x ∷ xs) zero h = absurd (omega arith)
nothing-left (x ∷ xs) (suc n) h = nothing-left xs n (omega arith)
