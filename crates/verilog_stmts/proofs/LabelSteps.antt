-- The steps of the reader of labels: one for each way out of a function of the parser.
use Rattle.std.proofs.Common.{◌≡◌, ℕ, Bool, true, false, List, [], ◌∷◌, ◌++◌, map, sym, ap, ◌∙◌}
use Rattle.verilog_ast.specs.declared.Label.{Label}
use Rattle.verilog_exprs.specs.declared.halt.Halt.{Halt}
use Rattle.verilog_exprs.specs.Halts.{HaltsAs}
use Rattle.verilog_exprs.specs.Next.{Takes, Lacks}
use Rattle.verilog_exprs.proofs.Steps.{halts_then, halts_by, halts_for_memory, then_done, next_takes, next_lacks}
use Rattle.verilog_lex.specs.declared.token.Token.{Token}
use Rattle.verilog_lex.specs.declared.marks.MarkKind.TheVariants.{Comma}
use Rattle.verilog_reading.specs.ExprTree.{ExprTree}
use Rattle.verilog_reading.specs.Lexemes.{Spot, mark_in, Masked, mask_in}
use Rattle.verilog_reading.specs.Outcome.{Outcome, done, next}
use Rattle.verilog_reading.specs.Reader.{readers}
use Rattle.verilog_reading.specs.StmtReader.{lower, value_label, label}
use Rattle.verilog_reading.specs.StmtTree.{LabelTree, by_value, by_mask, label_tree_of}
use Rattle.verilog_reading.proofs.ExprLocal.{local}
use Rattle.verilog_reading.proofs.StmtLocal.{local_choice}
use Rattle.verilog_stmts.specs.Forms.{labels_at}
use Rattle.verilog_stmts.proofs.ListSteps.{Several, several_first_halts, several_first, several_more, several_halts, several_end}

-- a value
pub value_halts : (k : ℕ) (ts : List Token) (h : Halt) → HaltsAs ((readers k).expr ts) h → HaltsAs (value_label (lower k) ts) h
value_halts k ts h x = halts_then ((readers k).expr ts) (λ e. done (by_value e)) h x

pub value_done : (k : ℕ) (ts : List Token) (e : ExprTree) (rest : List Token) (a : LabelTree) → (readers k).expr ts ≡ done e rest → a ≡ by_value e → value_label (lower k) ts ≡ done a rest
value_done k ts e rest a x q = then_done ((readers k).expr ts) (λ e. done (by_value e)) e rest x ∙ ap (λ z. done z rest) (sym q)

pub ruleset value_steps = (value_halts, value_done)

-- a value or a mask
abbrev masked_at : ℕ → List Token → Outcome LabelTree
masked_at k = next mask_in (λ n. done (by_mask n.value n.opened n.width)) (value_label (lower k))

pub label_plain : (k : ℕ) (masks : Bool) (ts : List Token) → masks ≡ false → label (lower k) masks ts ≡ value_label (lower k) ts
label_plain k masks ts e = ap (λ m. label (lower k) m ts) e

label_masked : (k : ℕ) (masks : Bool) (ts : List Token) → masks ≡ true → label (lower k) masks ts ≡ masked_at k ts
label_masked k masks ts e = ap (λ m. label (lower k) m ts) e

pub label_other : (k : ℕ) (masks : Bool) (ts : List Token) → masks ≡ true → Lacks mask_in ts → label (lower k) masks ts ≡ value_label (lower k) ts
label_other k masks ts e w = label_masked k masks ts e ∙ next_lacks mask_in (λ n. done (by_mask n.value n.opened n.width)) (value_label (lower k)) ts w

pub label_mask : (k : ℕ) (masks : Bool) (ts : List Token) (n : Masked) (rest : List Token) (a : LabelTree) → masks ≡ true → Takes mask_in n ts rest → a ≡ by_mask n.value n.opened n.width → label (lower k) masks ts ≡ done a rest
label_mask k masks ts n rest a e w q = label_masked k masks ts e ∙ next_takes mask_in (λ n. done (by_mask n.value n.opened n.width)) (value_label (lower k)) n ts rest w ∙ ap (λ z. done z rest) (sym q)

pub label_plain_done : (k : ℕ) (masks : Bool) (ts : List Token) (a : LabelTree) (rest : List Token) → masks ≡ false → value_label (lower k) ts ≡ done a rest → label (lower k) masks ts ≡ done a rest
label_plain_done k masks ts a rest e x = label_plain k masks ts e ∙ x

pub label_plain_halts : (k : ℕ) (masks : Bool) (ts : List Token) (h : Halt) → masks ≡ false → HaltsAs (value_label (lower k) ts) h → HaltsAs (label (lower k) masks ts) h
label_plain_halts k masks ts h e x = halts_by (label (lower k) masks ts) (value_label (lower k) ts) h (label_plain k masks ts e) x

pub label_other_done : (k : ℕ) (masks : Bool) (ts : List Token) (a : LabelTree) (rest : List Token) → masks ≡ true → Lacks mask_in ts → value_label (lower k) ts ≡ done a rest → label (lower k) masks ts ≡ done a rest
label_other_done k masks ts a rest e w x = label_other k masks ts e w ∙ x

pub label_other_halts : (k : ℕ) (masks : Bool) (ts : List Token) (h : Halt) → masks ≡ true → Lacks mask_in ts → HaltsAs (value_label (lower k) ts) h → HaltsAs (label (lower k) masks ts) h
label_other_halts k masks ts h e w x = halts_by (label (lower k) masks ts) (value_label (lower k) ts) h (label_other k masks ts e w) x

pub ruleset label_steps = (label_mask, label_plain_done, label_plain_halts, label_other_done, label_other_halts)

-- lists
abbrev pub LabelsOn : (k : ℕ) (masks : Bool) → Outcome (List LabelTree) → List Label → List Token → Type 0
LabelsOn k masks o xs rest = Several label_tree_of (mark_in Comma) (label (lower k) masks) o xs rest

pub labels_halt : (k : ℕ) (masks : Bool) (ts : List Token) (h : Halt) → HaltsAs (label (lower k) masks ts) h → HaltsAs (labels_at (lower k) masks ts) h
labels_halt k masks ts h x = several_first_halts label_tree_of (mark_in Comma) (label (lower k) masks) ts h x

pub labels_first : (k : ℕ) (masks : Bool) (ts : List Token) (x : Label) (xs : List Label) (rest : List Token) → label (lower k) masks ts ≡ done (label_tree_of x) rest → xs ≡ x ∷ [] → LabelsOn k masks (labels_at (lower k) masks ts) xs rest
labels_first k masks ts x xs rest e l = several_first label_tree_of (mark_in Comma) (label (lower k) masks) ts x xs rest e l

pub labels_more : (k : ℕ) (masks : Bool) (o : Outcome (List LabelTree)) (xs ys : List Label) (s : Spot) (ts after : List Token) (x : Label) (rest : List Token) → LabelsOn k masks o xs ts → Takes (mark_in Comma) s ts after
    → label (lower k) masks after ≡ done (label_tree_of x) rest → ys ≡ xs ++ x ∷ [] → LabelsOn k masks o ys rest
labels_more k masks o xs ys s ts after x rest g w e q = several_more label_tree_of (mark_in Comma) (label (lower k) masks) (local_choice (lower k) (local k) masks) o xs ys s ts after x rest g w e q

pub labels_stop : (k : ℕ) (masks : Bool) (o : Outcome (List LabelTree)) (xs : List Label) (s : Spot) (ts after : List Token) (h : Halt) → LabelsOn k masks o xs ts → Takes (mark_in Comma) s ts after
    → HaltsAs (label (lower k) masks after) h → HaltsAs o h
labels_stop k masks o xs s ts after h g w x = several_halts label_tree_of (mark_in Comma) (label (lower k) masks) o xs s ts after h g w x

pub labels_end : (k : ℕ) (masks : Bool) (o : Outcome (List LabelTree)) (xs : List Label) (ts : List Token) → LabelsOn k masks o xs ts → Lacks (mark_in Comma) ts → o ≡ done (map label_tree_of xs) ts
labels_end k masks o xs ts g w = several_end label_tree_of (mark_in Comma) (label (lower k) masks) o xs ts g w

pub ruleset labels_steps = (labels_halt, labels_first, labels_more, labels_stop, labels_end, halts_for_memory)
