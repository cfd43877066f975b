-- How long entries of mailbox logs are.
use Rattle.store_core.proofs.Common.{◌≡◌, ◌≤◌, ◌<◌, ◌*◌, ◌+◌, ◌++◌, ◌∷◌, [], ℕ, List, length, length-append, arith, All, All-head, All-tail, flat_map, BoxEntry, BoxMeaning, box_text, BoxInRange}
use Rattle.mdbox_base.specs.Keywords.{IsKeyword, WantsMemory}
use Rattle.mdbox_base.specs.declared.entries.BoxEntry.TheVariants as entry
use Rattle.model_logs.specs.Entries.{name_text, words_text}
use Rattle.model_meaning.specs.BoxMeaning.{BoxFits}

words_short : (words : List (List ℕ)) → All IsKeyword words → length (flat_map name_text words) ≤ 65 * length words
words_short [] each = omega arith
words_short (w ∷ ws) each =
    let own : length w ≤ 64 = (All-head IsKeyword w ws each).short in
    let rest = words_short ws (All-tail IsKeyword w ws each) in
    let both : length (name_text w ++ flat_map name_text ws) ≡ length (name_text w) + length (flat_map name_text ws) = length-append (name_text w) (flat_map name_text ws) in
    omega (arith, own, rest, both)

-- one that fits is no longer than that of an added message with 32 keywords of 64 octets
pub entry_short : (m : BoxMeaning) (e : BoxEntry) → BoxInRange e → BoxFits m e → length (box_text e) ≤ 2119
entry_short m (entry.N n) range fits = omega arith
entry_short m (entry.F u f) range fits = omega arith
entry_short m (entry.R u) range fits = omega arith
entry_short m (entry.A u f t z k g w) range fits =
    let few : length w ≤ 32 = fits.5.few in
    let words = words_short w fits.5.each in
    let guid : length g.0 ≡ 16 = range.5 in
    let both : length (g.0 ++ words_text w) ≡ length g.0 + length (words_text w) = length-append g.0 (words_text w) in
    omega (arith, few, words, guid, both)
entry_short m (entry.K u w) range fits =
    let few : length w ≤ 32 = fits.1.few in
    let words = words_short w fits.1.each in
    omega (arith, few, words)

-- one of more than 64 octets has keywords
pub long_wants : (e : BoxEntry) → 64 < length (box_text e) → WantsMemory e
long_wants (entry.N n) long = absurd (omega (arith, long))
long_wants (entry.F u f) long = absurd (omega (arith, long))
long_wants (entry.R u) long = absurd (omega (arith, long))
long_wants (entry.A u f t z k g w) long = tt
long_wants (entry.K u w) long = tt
