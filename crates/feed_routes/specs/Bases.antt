-- Base addresses.
use Rattle.std.specs.Prelude.{◌≡◌, ◌≤◌, ◌⊎◌, ◌&&◌, ◌||◌, ℕ, List, Bool, false, ◌++◌, codes, length, not, nat_eq, nat_le, is_some, None, Ok, Err}
use Rattle.std.specs.List.{ends_with}
use Rattle.std.specs.Str.{bytes_eq}
use Rattle.url.specs.Parser.{Parsed, parse_url}
use Rattle.url.specs.Parts.{Parts, serialize}

-- the URL Standard reads the text as this URL of the web, and writes it as the same text
pub record IsWebUrl (text : List ℕ) (url : Parts) : Type 0 where
  pub reads : parse_url None text ≡ Ok url
  pub same : serialize url ≡ text
  pub scheme : (url.scheme ≡ codes "http") ⊎ (url.scheme ≡ codes "https")

-- a base address: a short URL of the web that ends with `/`, without a query and a fragment
pub record IsBaseAddress (text : List ℕ) : Type 0 where
  pub short : length text ≤ 200
  pub url : (url : Parts) × IsWebUrl text url × (url.query ≡ None) × (url.fragment ≡ None)
  pub ends : (front : List ℕ) × (text ≡ front ++ codes "/")

-- whether this URL is one of the web that is written as the text, without a query and a fragment
abbrev pub is_bare_url : List ℕ → Parts → Bool
is_bare_url text url =
    bytes_eq (serialize url) text && ((bytes_eq url.scheme (codes "http") || bytes_eq url.scheme (codes "https"))
    && (not (is_some url.query) && not (is_some url.fragment)))

-- whether a text that is read so is such a URL
abbrev pub is_read_bare : List ℕ → Parsed Parts → Bool
is_read_bare text (Ok url) = is_bare_url text url
is_read_bare text (Err error) = false

-- whether a text is a base address
unfoldable pub is_base_address : List ℕ → Bool
is_base_address text = nat_le (length text) 200 && (ends_with nat_eq text (codes "/") && is_read_bare text (parse_url None text))
