-- Drivers: a bit has one at most, and a bit that is read has one.
use Rattle.std.specs.Prelude.{ℕ, suc, ◌+◌, Bool, true, false, cond, not, ◌&&◌, ◌||◌, ◌==◌, nat_le, List, [], ◌∷◌, ◌++◌, map, Option, Some, None}
use Rattle.std.specs.List.{list_any}
use Rattle.cdc_base.specs.declared.signal.Signal.{Signal}
use Rattle.cdc_base.specs.declared.signal.SigKind.{SigKind}
use Rattle.cdc_base.specs.declared.signal.SigKind.TheVariants.{Input, Register, Wire}
use Rattle.cdc_base.specs.Bits.{bit_text}
use Rattle.flat_meaning.specs.Flat.{Expr, Target, Stmt, Null, assigns}
use Rattle.flat_meaning.specs.Assigned.{may_assign}
use Rattle.flat_meaning.specs.Design.{Flat, size_in, once, drivers}
use Rattle.flat_meaning.specs.Deps.{union}
use Rattle.flat_unfolding.specs.Outcome.{Outcome, good, then_, refused}
use Rattle.flat_meaning.specs.Law.{expr_reads}
use Rattle.flat_form.specs.Uses.{target_reads, stmt_reads}
use Rattle.flat_unfolding.specs.Reads.{first_from}

-- how many processes may assign a signal
abbrev pub assigned_by : List Stmt → ℕ → ℕ
assigned_by [] s = 0
assigned_by (body ∷ rest) s = once (assigns body s) + assigned_by rest s

abbrev pub bodies : Flat → List Stmt
bodies f = map (λ (p : ℕ × Stmt). p.1) f.clocked

-- whether a clocked process assigns the signal
abbrev pub is_clocked : Flat → ℕ → Bool
is_clocked f s = nat_le 1 (assigned_by (bodies f) s)

-- assignments and processes of wires drive the bits that they may assign; clocked processes count together as one driver of all bits of each
-- signal that they assign
abbrev pub all_drivers : Flat → (sig at : ℕ) → ℕ
all_drivers f s i = drivers f s i + once (is_clocked f s)

-- ---- clocked processes of one signal

-- a clocked process as far as drivers go: its clock, the signal of its reset's edge, the first branch of its reset form, and its body
pub record Process : Type 0 where
  pub clock : ℕ
  pub edge : Option ℕ
  pub branch : Stmt
  pub body : Stmt

abbrev pub processes : List (ℕ × Stmt) → List (Option ℕ × Stmt) → List Process
processes [] rs = []
processes (p ∷ ps) [] = record { clock = p.0; edge = None; branch = Null; body = p.1 } ∷ processes ps []
processes (p ∷ ps) (r ∷ rs) = record { clock = p.0; edge = r.0; branch = r.1; body = p.1 } ∷ processes ps rs

-- what the process assigns, in its reset or after it
abbrev pub drives : Process → ℕ → Bool
drives p s = assigns p.branch s || assigns p.body s

abbrev pub may_drive : (ℕ → ℕ) → Process → (sig at : ℕ) → Bool
may_drive wid p s i = may_assign wid p.branch s i || may_assign wid p.body s i

-- how many of the processes may assign a bit
abbrev pub times_driven : (ℕ → ℕ) → List Process → (sig at : ℕ) → ℕ
times_driven wid [] s i = 0
times_driven wid (p ∷ ps) s i = once (may_drive wid p s i) + times_driven wid ps s i

abbrev pub is_same_signal : Option ℕ → Option ℕ → Bool
is_same_signal None None = true
is_same_signal (Some a) (Some b) = a == b
is_same_signal a b = false

-- the edges of an accepted process have the kinds that their signals ask for
abbrev pub have_same_edges : Process → Process → Bool
have_same_edges p q = (p.clock == q.clock) && is_same_signal p.edge q.edge

-- one of the processes assigns the signal at other edges than p
abbrev pub is_driven_apart : Process → List Process → ℕ → Bool
is_driven_apart p [] s = false
is_driven_apart p (q ∷ qs) s = (drives q s && not (have_same_edges p q)) || is_driven_apart p qs s

-- two of the processes assign the signal at different edges
abbrev pub have_other_edges : List Process → ℕ → Bool
have_other_edges [] s = false
have_other_edges (p ∷ ps) s = cond (drives p s) (is_driven_apart p ps s) (have_other_edges ps s)

-- several processes assign the signal, not all of them clocked ones with the same edges: each bit counts as having two drivers
abbrev pub is_shared : Flat → List (Option ℕ × Stmt) → ℕ → Bool
is_shared f resets s = nat_le 2 (assigned_by f.combs s + once (is_clocked f s)) || have_other_edges (processes f.clocked resets) s

-- two drivers of a bit
abbrev pub is_double : Flat → List (Option ℕ × Stmt) → (sig at : ℕ) → Bool
is_double f resets s i = nat_le 2 (all_drivers f s i) || nat_le 2 (times_driven (size_in f) (processes f.clocked resets) s i) || is_shared f resets s

-- what an expression, an event or a connection reads
abbrev pub is_read : Flat → (sig at : ℕ) → Bool
is_read f s i = list_any (λ (a : Target × Expr). union (expr_reads (size_in f) a.1) (target_reads (size_in f) a.0) s i) f.assigns
    || list_any (λ body. stmt_reads (size_in f) body s i) (f.combs ++ bodies f)
    || list_any (λ (p : ℕ × Stmt). (p.0 == s) && (i == 0)) f.clocked

abbrev pub is_from_outside : SigKind → Bool
is_from_outside Input = true
is_from_outside Register = false
is_from_outside Wire = false

-- a top input needs no driver
abbrev pub is_undriven : Flat → (s : ℕ) → Signal → (at : ℕ) → Bool
is_undriven f s x i = not (is_from_outside x.kind) && is_read f s i && (all_drivers f s i == 0)

-- the first bit, in order, that breaks a rule: the refusal stands at the signal's declaration, with the bit's printed name
abbrev pub refuse_bit : (rule : ℕ) → Signal → Option ℕ → (later : Outcome (Unit {0})) → Outcome (Unit {0})
refuse_bit rule x None later = later
refuse_bit rule x (Some i) later = refused rule (Some x.place) (bit_text x i)

abbrev pub refuse_first : (rule : ℕ) → (ℕ → Signal → ℕ → Bool) → (from : ℕ) → List Signal → Outcome (Unit {0})
refuse_first rule p n [] = good tt
refuse_first rule p n (x ∷ rest) = refuse_bit rule x (first_from (p n x) 0 x.width) (refuse_first rule p (suc n) rest)

-- E309, and after that E310
abbrev pub driven_once : Flat → List (Option ℕ × Stmt) → Outcome (Unit {0})
driven_once f resets = then_ (refuse_first 309 (λ s x i. is_double f resets s i) 0 f.signals) (λ u. refuse_first 310 (is_undriven f) 0 f.signals)
