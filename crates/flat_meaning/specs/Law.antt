-- The trees of both kinds of processes, and what their values have to do with executing them.
use Rattle.std.specs.Prelude.{◌≡◌, ℕ, ◌+◌, ◌<◌, ◌≤◌, Bool, true, false, cond}
use Rattle.cell_graph.specs.Reading.{Reading}
use Rattle.cell_graph.specs.Tree.{Tree, Var, Const, width, bit}
use Rattle.flat_meaning.specs.Values.{Words}
use Rattle.flat_meaning.specs.Flat.{Expr, Stmt, size, assigns}
use Rattle.flat_meaning.specs.Meaning.{value, run_blocking, run_clocked}
use Rattle.flat_meaning.specs.Trees.{Selects, Trees, cut, tree, after}
use Rattle.flat_meaning.specs.Fits.{Fits}
use Rattle.flat_meaning.specs.Assigned.{Done, surely, FitsStmt}
use Rattle.flat_meaning.specs.Deps.{Bits, AllIn, span, reads, wire_deps}

-- no signal has more than 64 bits
abbrev pub AreWords : (ℕ → ℕ) → Type 0
AreWords wid = (s : ℕ) → wid s ≤ 64

-- which selects may be read, as a test: a relation here would put the laws into Type 1
abbrev pub Readable : Type 0
Readable = (sig at width : ℕ) → Bool

abbrev pub MayBe : Readable → (sig at width : ℕ) → Type 0
MayBe ok s at w = ok s at w ≡ true

-- in the reading r, the tree of each select of good bits has the bits that the values v give
abbrev pub Shows : Reading → Words → Readable → Bits → Selects → Type 0
Shows r v ok good sel = (s at w : ℕ) → ok s at w ≡ true → AllIn good (span s at w) → (width (sel s at w) ≡ w) × ((i : ℕ) → i < w → bit r (sel s at w) i ≡ v s (at + i))

abbrev pub every : Bits
every s i = true

-- a clocked process reads the values before the event, and begins with them
abbrev pub next_tree : (ℕ → ℕ) → Selects → Stmt → ℕ → Tree
next_tree wid sel body = after wid (λ ts. sel) body (λ s. Var s (wid s))

abbrev pub IsClocked : (ℕ → ℕ) → Readable → Stmt → Type 0
IsClocked wid ok body = FitsStmt wid (λ d. MayBe ok) (λ x i. true) body

-- a process of wires reads its own targets as they are at that place, and begins with nothing
abbrev pub present : (ℕ → ℕ) → Selects → (is_target : ℕ → Bool) → Trees → Selects
present wid sel is_target ts s at w = cond (is_target s) (cut (wid s) at w (ts s)) (sel s at w)

abbrev pub wire_tree : (ℕ → ℕ) → Selects → Stmt → ℕ → Tree
wire_tree wid sel body = after wid (present wid sel (assigns body)) body (λ s. Const (wid s) 0)

-- a target is read where it is assigned
abbrev pub MayRead : (ℕ → ℕ) → Readable → (is_target : ℕ → Bool) → Done → (sig at width : ℕ) → Type 0
MayRead wid ok is_target d s at w = ((is_target s ≡ false) → ok s at w ≡ true) × ((is_target s ≡ true) → (at + w ≤ wid s) × ((i : ℕ) → i < w → d s (at + i) ≡ true))

abbrev pub IsComb : (ℕ → ℕ) → Readable → Stmt → Type 0
IsComb wid ok body = FitsStmt wid (MayRead wid ok (assigns body)) (λ x i. false) body

-- ---- the laws

-- an expression reads each select as it is
abbrev pub expr_reads : (ℕ → ℕ) → Expr → Bits
expr_reads wid e = reads wid (λ d. span) (λ x i j. false) e

abbrev pub ExpressionLaw : Type 0
ExpressionLaw = (r : Reading) (v : Words) (wid : ℕ → ℕ) (ok : Readable) (good : Bits) (sel : Selects) → Shows r v ok good sel
    → (e : Expr) → Fits wid (MayBe ok) e → AllIn good (expr_reads wid e)
    → (W : ℕ) → size e ≤ W → (width (tree wid sel e W) ≡ W) × ((i : ℕ) → i < W → bit r (tree wid sel e W) i ≡ value v e W i)

-- the first trees are those of the registers themselves, and r and v have one value for these
abbrev pub ClockedLaw : Type 0
ClockedLaw = (r : Reading) (v : Words) (wid : ℕ → ℕ) (ok : Readable) (sel : Selects) → AreWords wid → Shows r v ok every sel → (body : Stmt) → IsClocked wid ok body
    → ((x i : ℕ) → assigns body x ≡ true → i < wid x → r (record { sig = x; at = i }) ≡ v x i) → (x : ℕ) → assigns body x ≡ true
    → (width (next_tree wid sel body x) ≡ wid x) × ((i : ℕ) → i < wid x → bit r (next_tree wid sel body x) i ≡ run_clocked wid body v x i)

abbrev pub CombLaw : Type 0
CombLaw = (r : Reading) (v : Words) (wid : ℕ → ℕ) (ok : Readable) (good : Bits) (sel : Selects) → AreWords wid → Shows r v ok good sel → (body : Stmt) → IsComb wid ok body
    → (x : ℕ) → assigns body x ≡ true → AllIn good (wire_deps wid body x)
    → (width (wire_tree wid sel body x) ≡ wid x)
    × ((i : ℕ) → i < wid x → surely wid body (λ x i. false) x i ≡ true → bit r (wire_tree wid sel body x) i ≡ run_blocking wid body v x i)
