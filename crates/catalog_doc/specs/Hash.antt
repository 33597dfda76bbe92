-- The leaf's `packageHash`.
use Rattle.std.specs.Prelude.{ℕ, List}
use Rattle.base64.specs.Engines.{standard}
use Rattle.base64.specs.GeneralPurpose.{encode_of}
use Rattle.sha2.specs.Sha512.{sha512}

-- the standard base64 (RFC 4648, section 4) of the package's SHA-512 (FIPS 180-4)
unfoldable pub hash_text : List ℕ → List ℕ
hash_text nupkg = encode_of standard (sha512 nupkg)
