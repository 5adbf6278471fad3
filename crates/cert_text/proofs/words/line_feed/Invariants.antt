use Rattle.cert_text.specs.Words.{HasNoFeed}
use Rattle.cert_text.proofs.words.line_feed.Given as goal

abbrev pub invariant-loop-place : goal.invariant-loop-place
invariant-loop-place l = HasNoFeed l.text l.place
