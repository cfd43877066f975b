use Rattle.std.proofs.Common.{arith, ap, sym, ◌∙◌, ◌≡◌, ◌≤◌, ◌<◌, ◌+◌, ◌-◌, ◌/◌, ◌%◌, false, drop, set, length, ◌∷◌, [], drop_of_length-le}
use Rattle.std.proofs.Math.Nat.{div-lt_self}
use Rattle.std.proofs.lemmas.List.{drop-set}
use Rattle.std.specs.Fmt.{digit_glyph}
use Rattle.mdbox_base.proofs.DigitLemmas.{digits_to, digits_to-all, digits_to-more, digits_to-last, rest_shorter, place_some}
use Rattle.mdbox_base.proofs.numbers.write_digits.Goals as goal

pub loop-rest-init : goal.loop-rest-init
loop-rest-init c =
    let none : drop 20 c.args.text.now ≡ [] = let long : length c.args.text.now ≤ 20 = omega arith in drop_of_length-le c.args.text.now long in
    record {
      within = omega arith;
      small = omega arith;
      written = ap (digits_to 19 c.args.base c.args.value) none ∙ digits_to-all c.args.base c.args.value;
    }

pub overflow_sub-start : goal.overflow_sub-start
overflow_sub-start c = place_some c.loop-rest.rest c.loop-rest.start c.loop-rest.invariant.small (omega arith)

pub loop-rest-smaller : goal.loop-rest-smaller
loop-rest-smaller c =
    let less : c.loop-rest.rest / c.args.base < c.loop-rest.rest = div-lt_self (omega arith) (omega arith) in
    omega arith

pub loop-rest-preserved : goal.loop-rest-preserved
loop-rest-preserved c =
    let start = c.loop-rest.start in
    let rest = c.loop-rest.rest in
    let some : 1 ≤ start = place_some rest start c.loop-rest.invariant.small (omega arith) in
    let e : start - 1 + 1 ≡ start = omega arith in
    let front : drop start (set c.loop-rest.text start c.glyph.result) ≡ digit_glyph false (rest % c.args.base) ∷ drop (start + 1) c.loop-rest.text =
    drop-set c.loop-rest.text start c.glyph.result (omega arith) ∙ ap (λ d. d ∷ drop (start + 1) c.loop-rest.text) c.glyph.ensures in
    record {
      within = omega arith;
      small = rw e (rest_shorter c.args.base rest start c.requires.low c.loop-rest.invariant.small);
      written = ap (λ k. digits_to (start - 1) c.args.base (rest / c.args.base) (drop k (set c.loop-rest.text start c.glyph.result))) e
          ∙ ap (digits_to (start - 1) c.args.base (rest / c.args.base)) front
          ∙ sym (digits_to-more start c.args.base rest (drop (start + 1) c.loop-rest.text) c.requires.low (omega arith) some)
          ∙ c.loop-rest.invariant.written;
    }

pub returns-clause-written : goal.returns-clause-written
returns-clause-written c =
    drop-set c.loop-rest.text c.loop-rest.start c.glyph-2.result (omega arith)
    ∙ ap (λ d. d ∷ drop (c.loop-rest.start + 1) c.loop-rest.text) c.glyph-2.ensures
    ∙ sym (digits_to-last c.loop-rest.start c.args.base c.loop-rest.rest (drop (c.loop-rest.start + 1) c.loop-rest.text) (omega arith))
    ∙ c.loop-rest.invariant.written
