-- A SHA-1 has twenty octets (FIPS 180-4).
use Rattle.std.proofs.Common.{◌≡◌, ◌*◌, ◌/◌, ◌<◌, ℕ, zero, suc, List, length, arith, length-append}
use Rattle.std.specs.Prelude.{slice_index}
use Rattle.std.specs.Int.{w32, to_be_bytes}
use Rattle.std.proofs.lemmas.List.Elements.{All-nil, All-append, All-from_recursion}
use Rattle.sha1.specs.Sha1.{hash_after, padded_message, digest_bytes, sha1}
use Rattle.mdbox_base.specs.Words.{IsOctets}

word_octets : (n : ℕ) → IsOctets (to_be_bytes w32 n)
word_octets n = All-from_recursion (λ o. o < 256) (to_be_bytes w32 n) (omega arith, (omega arith, (omega arith, (omega arith, tt))))

digest_long : (h : List ℕ) (n : ℕ) → length (digest_bytes h n) ≡ 4 * n
unfolding digest_bytes
digest_long h zero = omega arith
digest_long h (suc n) = omega (arith, length-append (digest_bytes h n) (to_be_bytes w32 (slice_index h n)), digest_long h n)

digest_octets : (h : List ℕ) (n : ℕ) → IsOctets (digest_bytes h n)
unfolding digest_bytes
digest_octets h zero = All-nil (λ o. o < 256)
digest_octets h (suc n) = All-append (λ o. o < 256) (digest_bytes h n) (to_be_bytes w32 (slice_index h n)) (digest_octets h n) (word_octets (slice_index h n))

pub hash_long : (octets : List ℕ) → length (sha1 octets) ≡ 20
unfolding sha1
hash_long octets = omega (arith, digest_long (hash_after (padded_message octets) (length (padded_message octets) / 64)) 5)

pub hash_octets : (octets : List ℕ) → IsOctets (sha1 octets)
unfolding sha1
hash_octets octets = digest_octets (hash_after (padded_message octets) (length (padded_message octets) / 64)) 5
