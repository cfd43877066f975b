-- Texts that reach an output in pieces.
use Rattle.std.specs.Prelude.{◌≡◌, ◌<◌, ℕ, List, [], ◌++◌, length, take, drop, refl, Option, Some, None, Result, Ok, Err, OnOk, OnErr}
use Rattle.std.specs.Option.{option_map}
use Rattle.std.proofs.Common.{sym, ◌∙◌, ap, subst, append_assoc, append-nil, inl, inr}
use Rattle.std.proofs.lemmas.List.{take-append-drop}
use Rattle.mdbox_base.specs.Streams.{Appended, Rose}
use Rattle.mdbox_base.specs.declared.stream.SinkFault.{SinkFault}
use Rattle.piece_writer.specs.Pieces.{Gathers, WritesPrefix, WritesOrFaults}

pub appended_nothing : (h : Option (List ℕ)) → Appended h [] h
appended_nothing None = refl
appended_nothing (Some x) = ap Some (sym (append-nil x))

pub appended_more : (h k l : Option (List ℕ)) (a b : List ℕ) → Appended h a k → Appended k b l → Appended h (a ++ b) l
appended_more None k l a b p q = q ∙ ap (option_map (λ (held : List ℕ). held ++ b)) p
appended_more (Some x) k l a b p q = q ∙ ap (option_map (λ (held : List ℕ). held ++ b)) p ∙ ap Some (append_assoc x a b)

pub passed_kept : (h : Option (List ℕ)) (p t : List ℕ) → Gathers h p t h (p ++ t)
passed_kept h p t = ([], refl, appended_nothing h)

pub passed_both : (h k l : Option (List ℕ)) (p t : List ℕ) → Appended h p k → Appended k t l → Gathers h p t l []
passed_both h k l p t a b = (p ++ t, sym (append-nil (p ++ t)), appended_more h k l p t a b)

pub passed_nothing : (h : Option (List ℕ)) (p : List ℕ) → Gathers h p [] h p
passed_nothing h p = ([], append-nil p, appended_nothing h)

-- a prefix of the piece alone
pub cut_first : (h k : Option (List ℕ)) (p t : List ℕ) → WritesPrefix h [] p k → WritesPrefix h p t k
cut_first h k p t a = (a.0, a.1 ++ t, ap (λ (o : List ℕ). o ++ t) a.2 ∙ append_assoc a.0 a.1 t, a.3)

-- the piece, and a prefix of the text after it
pub cut_second : (h k l : Option (List ℕ)) (p t : List ℕ) → Appended h p k → WritesPrefix k [] t l → WritesPrefix h p t l
cut_second h k l p t a b = (p ++ b.0, b.1, ap (λ (o : List ℕ). p ++ o) b.2 ∙ sym (append_assoc p b.0 b.1), appended_more h k l p b.0 a b.3)

pub cut_nothing : (h : Option (List ℕ)) (p t : List ℕ) → WritesPrefix h p t h
cut_nothing h p t = ([], p ++ t, refl, appended_nothing h)

-- a text and then another
pub passed_more : (h k l : Option (List ℕ)) (p q r t u : List ℕ) → Gathers h p t k q → Gathers k q u l r → Gathers h p (t ++ u) l r
passed_more h k l p q r t u a b = (
  a.0 ++ b.0,
  sym (append_assoc p t u) ∙ ap (λ (o : List ℕ). o ++ u) a.1 ∙ append_assoc a.0 q u ∙ ap (λ (o : List ℕ). a.0 ++ o) b.1 ∙ sym (append_assoc a.0 b.0 r),
  appended_more h k l a.0 b.0 a.2 b.2,
)

pub cut_more : (h k l : Option (List ℕ)) (p q t u : List ℕ) → Gathers h p t k q → WritesPrefix k q u l → WritesPrefix h p (t ++ u) l
cut_more h k l p q t u a b = (
  a.0 ++ b.0,
  b.1,
  sym (append_assoc p t u) ∙ ap (λ (o : List ℕ). o ++ u) a.1 ∙ append_assoc a.0 q u ∙ ap (λ (o : List ℕ). a.0 ++ o) b.2 ∙ sym (append_assoc a.0 b.0 b.1),
  appended_more h k l a.0 b.0 a.2 b.3,
)

pub cut_before : (h k : Option (List ℕ)) (p t u : List ℕ) → WritesPrefix h p t k → WritesPrefix h p (t ++ u) k
cut_before h k p t u a = (a.0, a.1 ++ u, sym (append_assoc p t u) ∙ ap (λ (o : List ℕ). o ++ u) a.2 ∙ append_assoc a.0 a.1 u, a.3)

-- the piece given at the end
pub passed_end : (h k l : Option (List ℕ)) (p t : List ℕ) → Gathers h [] t k p → Appended k p l → Appended h t l
passed_end h k l p t a b = subst (λ (o : List ℕ). Appended h o l) (sym a.1) (appended_more h k l a.0 p a.2 b)

pub cut_end : (h k l : Option (List ℕ)) (p t : List ℕ) → Gathers h [] t k p → WritesPrefix k [] p l → WritesPrefix h [] t l
cut_end h k l p t a b = (a.0 ++ b.0, b.1, a.1 ∙ ap (λ (o : List ℕ). a.0 ++ o) b.2 ∙ sym (append_assoc a.0 b.0 b.1), appended_more h k l a.0 b.0 a.2 b.3)

part_given : (h k : Option (List ℕ)) (t : List ℕ) (n : ℕ) → Appended h (take n t) k → WritesPrefix h [] t k
part_given h k t n a = (take n t, drop n t, sym (take-append-drop n t), a)

pub prefix_given : (r : Result (Unit {0}) SinkFault) (h k : Option (List ℕ)) (t : List ℕ) → OnErr r ((given : ℕ) × (given < length t) × Appended h (take given t) k) → OnErr r (WritesPrefix h [] t k)
prefix_given (Ok u) h k t err = tt
prefix_given (Err e) h k t err = part_given h k t err.0 err.2

-- what a sink was given, whether it failed or not
pub gave_of : (r : Result (Unit {0}) SinkFault) (h k : Option (List ℕ)) (t : List ℕ) (f g : ℕ) → OnOk r (Appended h t k) → OnErr r (WritesPrefix h [] t k) → OnErr r (Rose f g) → WritesOrFaults h f t k g
gave_of (Ok u) h k t f g ok err cause = inl ok
gave_of (Err e) h k t f g ok err cause = inr (err, cause)
