use Rattle.std.proofs.Common.{◌≡◌, ◌∙◌, ◌<◌, ◌==◌, ℕ, zero, suc, Bool, false, List, length, Result, Ok, Err, ap, sym, arith, codes}
use Rattle.std.specs.Prelude.{IfOk, if◌then◌else◌}
use Rattle.std.proofs.lemmas.Bool.Decides.{nat_tests}
use Rattle.cdc_base.specs.declared.list.NoMemory.{NoMemory}
use Rattle.cdc_model.specs.declared.verdict.Verdict.{Verdict}
use Rattle.selftest_command.specs.Counts.{counts_line, counts_text, violations_text}
use Rattle.selftest_command.proofs.counts.counts.Goals as goal

some_found : (n : ℕ) → 0 < n → (n == 0) ≡ false
some_found zero h = absurd (omega (arith, h))
some_found (suc n) h = grind (arith, nat_tests)

found : (channels bits : ℕ) (v : Verdict) (crossings rings findings : ℕ) (r : Result (List ℕ) NoMemory) → crossings ≡ length v.crossings → rings ≡ length v.rings
    → findings ≡ length v.findings → 0 < length v.findings → IfOk r (λ line. line ≡ counts_text channels bits crossings rings (violations_text findings))
    → IfOk r (λ line. line ≡ counts_line channels bits v)
found channels bits v crossings rings findings (Err e) a b f some is = tt
found channels bits v crossings rings findings (Ok line) a b f some is =
    is ∙ ap (λ (n : ℕ). counts_text channels bits n rings (violations_text findings)) a
    ∙ ap (λ (n : ℕ). counts_text channels bits (length v.crossings) n (violations_text findings)) b
    ∙ ap (λ (n : ℕ). counts_text channels bits (length v.crossings) (length v.rings) (violations_text n)) f
    ∙ ap (λ (none : Bool). counts_text channels bits (length v.crossings) (length v.rings) (if none then codes " clean\n" else violations_text (length v.findings))) (sym (some_found (length v.findings) some))

pub returns-else-findings-eq0 : goal.returns-else-findings-eq0
returns-else-findings-eq0 c =
    let some : 0 < length c.args.verdict.now.findings = omega (arith, c.len-findings.ensures) in
    found c.args.channels c.args.bits c.args.verdict.now _ _ _ _ c.len-crossings.ensures c.len-rings.ensures c.len-findings.ensures some c.found_line.ensures
