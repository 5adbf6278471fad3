-- What is answered depends on the constraints of a constraint file alone.
use Rattle.std.proofs.Common.{◌≡◌, ℕ, Bool, true, false, List, Some, Result, Ok, Err, inl, inr, sym, subst}
use Rattle.cdc_base.specs.declared.fault.Fault.{Fault}
use Rattle.toml.specs.Data.{Members}
use Rattle.toml.specs.Parse.{parse_document}
use Rattle.cell_graph.specs.declared.net.Net.{Net}
use Rattle.domains.specs.declared.Domains.{Domains}
use Rattle.clock_constraints.specs.declared.Constraints.{Constraints}
use Rattle.clock_constraints.specs.Files.{constraints as constraints_of}
use Rattle.sdc_subset.specs.Meanings.{meaning}
use Rattle.verilog_lex.specs.declared.token.Token.{Token}
use Rattle.verilog_lex.specs.Tokens.{tokens_of}
use Rattle.verilog_reading.specs.ItemReading.{IsSource}
use Rattle.verilog_reading.specs.SourceTree.{ModuleTree}
use Rattle.command_files.specs.declared.status.Status.{Status}
use Rattle.described_design.specs.ConstraintFiles.{Breaks, BreaksRule, HasConstraints, Says, is_sdc, last_name}
use Rattle.described_design.specs.Described.{ReadsAs}
use Rattle.described_design.specs.Designs.{IsDesignOf}
use Rattle.described_design.specs.Refused.{AreTextsRefused, netlist, constraints, design}
use Rattle.described_design.specs.SameConstraints.{HaveSameConstraints}

-- ---- a file says one thing

once : {A : Type 0} (a b : A) (r : Result A Fault) → r ≡ Ok a → r ≡ Ok b → a ≡ b
once a b r h k = cc

one_token_list : (a b : List Token) (r : Result (List Token) Fault) → r ≡ Ok a → r ≡ Ok b → a ≡ b
one_token_list a b r h k = once a b r h k

one_document : (s t : Members) (bytes : List ℕ) → parse_document bytes ≡ Some s → parse_document bytes ≡ Some t → s ≡ t
one_document s t bytes h k = cc

says_once : (sdc : Bool) (modules : List ModuleTree) (bytes : List ℕ) (c d : Constraints) → Says sdc modules bytes c → Says sdc modules bytes d → c ≡ d
says_once true modules bytes c d h k = once c d (meaning bytes (last_name modules)) h k
says_once false modules bytes c d (s, (utf8, is), h) (t, (valid, also), k) =
    once c d (constraints_of t) (subst (λ (x : Members). constraints_of x ≡ Ok c) (one_document s t bytes is also) h) k

not_both : {A : Type 0} (a : A) (f : Fault) (r : Result A Fault) → r ≡ Ok a → r ≡ Err f → ⊥
not_both a f r h k = cc

breaks_none : (sdc : Bool) (modules : List ModuleTree) (bytes : List ℕ) (c : Constraints) (f : Fault) → Says sdc modules bytes c → Breaks sdc modules bytes f → ⊥
breaks_none true modules bytes c f h k = not_both c f (meaning bytes (last_name modules)) h k
breaks_none false modules bytes c f (s, document, h) (inl (is, none)) = none s document
breaks_none false modules bytes c f (s, (utf8, is), h) (inr (t, (valid, also), k)) =
    not_both c f (constraints_of t) (subst (λ (x : Members). constraints_of x ≡ Ok c) (one_document s t bytes is also) h) k

modules_once : (text : List ℕ) (a b : List ModuleTree) → ReadsAs text a → ReadsAs text b → a ≡ b
modules_once text a b r s =
    s.alone a (subst (λ (ts : List Token). IsSource ts a) (one_token_list r.tokens s.tokens (tokens_of text) r.are_tokens s.are_tokens) r.reads)

-- ---- and what is answered goes by it

module _ (net word con other_word other_con : List ℕ) (same : HaveSameConstraints net word con other_word other_con) where
  also_has : (modules : List ModuleTree) → ReadsAs net modules → (c : Constraints) → HasConstraints word modules con c
      → HasConstraints other_word modules other_con c
  also_has modules reads c means =
      let these : modules ≡ same.modules = modules_once net modules same.modules reads same.reads in
      let those : c ≡ same.constraints = says_once (is_sdc word) same.modules con c same.constraints
      (subst (λ (ms : List ModuleTree). HasConstraints word ms con c) these means) same.first in
      subst (λ (ms : List ModuleTree). HasConstraints other_word ms other_con c) (sym these)
      (subst (λ (d : Constraints). HasConstraints other_word same.modules other_con d) (sym those) same.second)

  no_rule : (modules : List ModuleTree) → ReadsAs net modules → (fault : Fault) → BreaksRule word modules con fault → ⊥
  no_rule modules reads fault breaks =
      breaks_none (is_sdc word) same.modules con same.constraints fault same.first
      (subst (λ (ms : List ModuleTree). BreaksRule word ms con fault) (modules_once net modules same.modules reads same.reads) breaks)

  pub same_design : (c : Constraints) (made : Net) (domains : Domains) → IsDesignOf word net con c made domains → IsDesignOf other_word net other_con c made domains
  same_design c made domains d = record { modules = d.modules; reads = d.reads; means = also_has d.modules d.reads c d.means; of_modules = d.of_modules; design = d.design }

  pub same_refusal : (fault : Fault) (status : Status) → AreTextsRefused word net con fault status → AreTextsRefused other_word net other_con fault status
  same_refusal fault status (netlist h) = netlist h
  same_refusal fault status (constraints modules reads is breaks) = absurd (no_rule modules reads fault breaks)
  same_refusal fault status (design modules reads c means h) = design modules reads c (also_has modules reads c means) h
