-- A document that states bounds, and one that is refused.
use Rattle.std.proofs.Common.{◌≡◌, ℕ, List, Some, Result, Ok, Err, IfOk, IfErr, IsUtf8}
use Rattle.std.proofs.lemmas.Result.{IfErr-weaker, IfOk-weaker}
use Rattle.toml.specs.Data.{Members}
use Rattle.toml.specs.Parse.{parse_document}
use Rattle.surveillance.specs.declared.thresholds.Thresholds.{Thresholds}
use Rattle.surveillance.specs.declared.thresholds.ThresholdsFault.{ThresholdsFault}
use Rattle.surveillance.specs.declared.thresholds.ThresholdsFault.TheVariants.{BadValue, NoMemory, NotToml, UnknownKey}
use Rattle.surveillance.specs.Thresholds.{AreStated, IsFaultOf, IsRefusedIn, States}

pub states : (text : List ℕ) (m : Members) (r : Result Thresholds ThresholdsFault) → IsUtf8 text → parse_document text ≡ Some m → IfOk r (AreStated m) → IfOk r (States text)
states text m r encoded parsed h = IfOk-weaker r _ _ (λ b k. record { document = m; encoded = encoded; parsed = parsed; states = k }) h

fault : (text : List ℕ) (m : Members) (f : ThresholdsFault) → IsUtf8 text → parse_document text ≡ Some m → IsRefusedIn m f → IsFaultOf text f
fault text m NotToml encoded parsed h = absurd h
fault text m (UnknownKey key) encoded parsed h = record { document = m; encoded = encoded; parsed = parsed; refused = h }
fault text m (BadValue b) encoded parsed h = record { document = m; encoded = encoded; parsed = parsed; refused = h }
fault text m NoMemory encoded parsed h = tt

pub refuses : (text : List ℕ) (m : Members) (r : Result Thresholds ThresholdsFault) → IsUtf8 text → parse_document text ≡ Some m → IfErr r (IsRefusedIn m) → IfErr r (IsFaultOf text)
refuses text m r encoded parsed h = IfErr-weaker r (IsRefusedIn m) (IsFaultOf text) (λ f k. fault text m f encoded parsed k) h
