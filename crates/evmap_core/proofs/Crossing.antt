-- A reader may go to another thread, and threads may share a factory.
use denote.RattleType.{RattleType}
use denote.Param.Send.{IsSend, IsSync, sendable}
use denote.Param.SendFields.{declared_send, declared_sync}
use Rattle.std.specs.declared.cmp.PartialEq as PartialEq
use Rattle.std.specs.declared.cmp.Eq as Eq
use Rattle.std.specs.declared.hash.Hash as Hash
use Rattle.std.specs.declared.hash.BuildHasher as Build
use Rattle.std.specs.declared.hash.Hasher as Hasher
use Rattle.crossbeam_utils.specs.declared.rule.Protocol as Protocol
use Rattle.std.proofs.Crossing.{crosses}
use Rattle.evmap_contents.proofs.inner.Inner.TheSendSync as inner
use Rattle.left_right.proofs.reader.Reader.TheSendSync as reader
use Rattle.left_right.proofs.reader.Factory.TheSendSync as factory
use Rattle.evmap_core.specs.declared.published.Published.{Published}
use Rattle.evmap_core.specs.declared.store.Store as declared
use Rattle.evmap_core.specs.declared.known_fronts.KnownFronts as known_fronts
use Rattle.evmap_core.specs.contracts.store.Store as Store
use Rattle.evmap_core.specs.contracts.factory.ReadHandleFactory as Factory
use Rattle.evmap_core.specs.contracts.reader.ReadHandle as Handle

module _ (K V M P S L H : RattleType) (hash : Hash.Ghosts K.Denot) (eq : PartialEq.Ghosts K.Denot) (whole : Eq.Ghosts V.Denot) (same : PartialEq.Ghosts V.Denot) (hashes : Hash.Ghosts V.Denot) (build : Build.Ghosts S.Denot H.Denot) (hasher : Hasher.Ghosts H.Denot) where
  pub Store-sync : IsSync K → IsSend V → IsSync V → IsSend M → IsSync M → IsSync S → IsSync (Store.the_row K V M P S L H hash eq whole same hashes build hasher)
  Store-sync ky vs vy ms my sy = declared_sync (Store.the_type K V M P S L H hash eq whole same hashes build hasher) (search (sendable, inner.the_sync) depth 20, (search (sendable, crosses) depth 20, (search (sendable, crosses) depth 20, (search (sendable, crosses) depth 20, tt))))

  module _ (rule : Protocol.Ghosts Published (declared.Store K.Denot V.Denot M.Denot P.Denot S.Denot L.Denot H.Denot) (known_fronts.KnownFronts L.Denot V.Denot M.Denot P.Denot)) where
    pub Factory-send : IsSync K → IsSend V → IsSync V → IsSend M → IsSync M → IsSync S → IsSend (Factory.the_row K V M P S L H hash eq whole same hashes build hasher rule)
    Factory-send ky vs vy ms my sy =
        let s = Store-sync ky vs vy ms my sy in
        declared_send (Factory.the_type K V M P S L H hash eq whole same hashes build hasher rule) (search (sendable, crosses, factory.the_send) depth 20, tt)

    pub Factory-sync : IsSync K → IsSend V → IsSync V → IsSend M → IsSync M → IsSync S → IsSync (Factory.the_row K V M P S L H hash eq whole same hashes build hasher rule)
    Factory-sync ky vs vy ms my sy =
        let s = Store-sync ky vs vy ms my sy in
        declared_sync (Factory.the_type K V M P S L H hash eq whole same hashes build hasher rule) (search (sendable, crosses, factory.the_sync) depth 20, tt)

    pub Handle-send : IsSync K → IsSend V → IsSync V → IsSend M → IsSync M → IsSync S → IsSend (Handle.the_row K V M P S L H hash eq whole same hashes build hasher rule)
    Handle-send ky vs vy ms my sy =
        let s = Store-sync ky vs vy ms my sy in
        declared_send (Handle.the_type K V M P S L H hash eq whole same hashes build hasher rule) (Factory-send ky vs vy ms my sy, (search (sendable, crosses, reader.the_send) depth 20, tt))
