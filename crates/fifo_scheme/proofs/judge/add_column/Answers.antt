-- The column of the node is inserted by its words.
use Rattle.std.proofs.Common.{◌≡◌, ◌∙◌, sym, ap, Some, rules}
use Rattle.std.specs.BTreeMap.{insert_entry}
use Rattle.std.specs.Option.{option_copied}
use Rattle.fifo_scheme.specs.Met.{column_at, kept_column, with_words}
use Rattle.fifo_scheme.proofs.Items.{got_some}
use Rattle.fifo_scheme.proofs.MetOrder.{by_words, column_added}
use Rattle.fifo_scheme.proofs.judge.add_column.Goals as goal

pub returns : goal.returns
returns c = λ one.
    let i = c.args.index.now in
    let kept = c.in-Some.field-0.now in
    let r = c.in-Some-get.read.now in
    let got : option_copied c.get.result ≡ Some kept = ap option_copied c.in-Some.is in
    let there = got_some i.reads c.as_slice.result.now c.as_slice.ensures kept.0 c.get-2.result c.in-Some-get.read c.get-2.ensures.lookup c.in-Some-get.is in
    let words : c.in_ok-words.words.items ≡ r.words = search rules in
    let is : column_at i c.args.reads.now c.args.node ≡ Some (record { words = r.words; value = kept.1 }) = ap (kept_column i) (sym c.get.ensures.value ∙ got) ∙ ap (with_words kept.1) there in
    let entries : c.insert.new.self.entries ≡ insert_entry by_words c.args.values.now.entries c.in_ok-words.words kept.1 = search rules in
    column_added i c.args.reads.now c.args.node c.args.values.now.entries c.insert.new.self.entries c.in_ok-words.words kept.1 r is words entries one
