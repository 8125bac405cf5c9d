-- Identifiers of numbers have those numbers.
use Rattle.std.proofs.Common.{◌≡◌, ℕ, ◌+◌, ◌*◌, ◌/◌, ◌%◌, ◌^◌, ◌<◌, arith}
use Rattle.isis_base.specs.Fields.{u32_at, u32_octets}
use Rattle.isis_base.specs.Identifiers.{lsp_number}
use Rattle.model_router.specs.Numbers.{u48_octets, u48_of, node_id, lsp_id, node_number}

low-reads_back : (n : ℕ) → 256 * (256 * (256 * (n / 16777216 % 256) + n / 65536 % 256) + n / 256 % 256) + n % 256 ≡ n % 4294967296
low-reads_back n = omega arith

pub high-reads_back : (n : ℕ) → n < 65536 → 256 * (n / 256 % 256) + n % 256 ≡ n
high-reads_back n h = omega arith

pub u48-again : (n : ℕ) → n < 2 ^ 48 → u48_of (u48_octets n) ≡ n
u48-again n h =
    let low = low-reads_back n in
    let high = high-reads_back (n / 4294967296) (omega arith) in
    omega arith

pub u32-again : (n : ℕ) → n < 2 ^ 32 → u32_at 0 (u32_octets n) ≡ n
u32-again n h = let low = low-reads_back n in omega (arith, low, h)

pub node-reads_back : (n : ℕ) → n < 2 ^ 56 → node_number (node_id n) ≡ n
node-reads_back n h =
    let system = u48-again (n / 256) (omega arith) in
    omega arith

pub lsp-reads_back : (n : ℕ) → n < 2 ^ 64 → lsp_number (lsp_id n) ≡ n
unfolding lsp_number
lsp-reads_back n h =
    let node = node-reads_back (n / 256) (omega arith) in
    omega arith
