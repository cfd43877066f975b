use Rattle.std.proofs.Common.{◌≡◌, List, ℕ, Some, None, refl, ap, arith, subst, length, take}
use Rattle.model_storage.specs.StorageFile.{IsMessageHeader}
use Rattle.scan_pieces.proofs.LongLemmas.{full, header_told, some_header, ends_in_body}
use Rattle.scan_pieces.specs.WindowValue.{WindowValue}
use Rattle.scan_pieces.proofs.window.Window.body_told.Goals as goal

pub returns-then-part-lt-HEADER-clause-none : goal.returns-then-part-lt-HEADER-clause-none
returns-then-part-lt-HEADER-clause-none c = λ octets l.
    let part = ap length c.part-part.ensures in
    let long = full c.args.self.now octets l c.requires.goes_on in
    let few = c.if-part-lt-HEADER.true in
    absurd (omega (arith, part, long, few))

pub returns-in_err-size-clause-none : goal.returns-in_err-size-clause-none
returns-in_err-size-clause-none c =
    let part = ap length c.part-part.ensures in
    let many = c.if-part-lt-HEADER.false in
    let told = subst (λ (p : List ℕ). (n : ℕ) → IsMessageHeader (take 30 p) n → None ≡ Some n) c.part-part.ensures c.in_err-size.ensures in
    absurd (some_header c.args.self.now (omega (arith, part, many)) c.requires.short told)

pub returns-then-self-size-clause-none : goal.returns-then-self-size-clause-none
returns-then-self-size-clause-none c = λ octets l.
    let part = ap length c.part-part.ensures in
    let many = c.if-part-lt-HEADER.false in
    let told = subst (λ (p : List ℕ). (n : ℕ) → IsMessageHeader (take 30 p) n → Some c.in_ok-size.size ≡ Some n) c.part-part.ensures c.in_ok-size.ensures in
    let start : c.self.inside.start ≡ c.args.self.now.start = ap (λ (w : WindowValue). w.start) c.self.view_is in
    let size : c.self.inside.size ≡ c.args.self.now.size = ap (λ (w : WindowValue). w.size) c.self.view_is in
    let more = c.requires.goes_on in
    let few = c.if-self-size.true in
    let header = header_told c.args.self.now octets c.in_ok-size.size (Some c.in_ok-size.size) l (omega (arith, part, many)) c.requires.short told refl in
    ends_in_body c.args.self.now octets c.in_ok-size.size l (omega (arith, part, many)) (omega (arith, more)) header (omega (arith, start, size, few))

pub returns-clause-some : goal.returns-clause-some
returns-clause-some c = λ octets l.
    let part = ap length c.part-part.ensures in
    let many = c.if-part-lt-HEADER.false in
    let told = subst (λ (p : List ℕ). (n : ℕ) → IsMessageHeader (take 30 p) n → Some c.in_ok-size.size ≡ Some n) c.part-part.ensures c.in_ok-size.ensures in
    header_told c.args.self.now octets c.in_ok-size.size (Some c.in_ok-size.size) l (omega (arith, part, many)) c.requires.short told refl
