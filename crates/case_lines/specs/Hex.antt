-- The bytes that hexadecimal digits give.
use Rattle.std.specs.Prelude.{ℕ, ◌+◌, ◌-◌, ◌*◌, ◌&&◌, nat_le, if◌then◌else◌, List, [], ◌∷◌}

-- 0 to 9 are 48 to 57, a to f are 97 to 102; anything else counts as 0
abbrev pub digit_value : ℕ → ℕ
digit_value b =
    if nat_le 48 b && nat_le b 57 then b - 48
    else if nat_le 97 b && nat_le b 102 then b - 87
    else 0

-- two digits are a byte, and a lone one at the end is the byte 0
unfoldable pub hex_bytes : List ℕ → List ℕ
hex_bytes [] = []
hex_bytes (lone ∷ []) = 0 ∷ []
hex_bytes (high ∷ low ∷ rest) = (digit_value high * 16 + digit_value low) ∷ hex_bytes rest
