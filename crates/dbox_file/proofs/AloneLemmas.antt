-- A text that is a header or a block, and nothing else.
use Rattle.std.specs.Prelude.{◌≡◌, ◌<◌, ◌==◌, ℕ, List, [], ◌++◌, length, false}
use Rattle.std.proofs.Common.{sym, ◌∙◌, ap, length-append, arith, append-nil}
use Rattle.std.proofs.lemmas.Bool.Decides.{nat_tests}
use Rattle.model_storage.specs.Grammars.{Grammar, IsPrefixFree}
use Rattle.dbox_file.specs.declared.reading.Flaw.{Flaw}
use Rattle.dbox_file.specs.declared.reading.Flaw.TheVariants.{Short, Bad}
use Rattle.dbox_file.specs.Reading.{FoundSome, Flawed}

pub flawed_none : {X : Type 0} → (G : Grammar X) (text : List ℕ) (flaw : Flaw) (value : X) → Flawed G text flaw → G text value → ⊥
flawed_none G text Short value f g = f.0 (text, [], value, sym (append-nil text), g)
flawed_none G text Bad value f g = f.0 (text, [], value, sym (append-nil text), g)

some_octets : (n : ℕ) → (n == 0) ≡ false → 0 < n
some_octets n e = grind (arith, nat_tests)

-- where a rest follows a spelling, the text is none
pub goes_on_none : {X : Type 0} → (G : Grammar X) (text rest : List ℕ) (value : X) → IsPrefixFree G → FoundSome G text rest → (length rest == 0) ≡ false → G text value → ⊥
goes_on_none G text rest value free (found, (spelling, e, first)) some g =
    let same = free text spelling [] rest value found g first (append-nil text ∙ e) in
    let long = ap length e in
    let both = length-append spelling rest in
    let front = ap length same.0 in
    let more = some_octets (length rest) some in
    omega (arith, long, both, front, more)
