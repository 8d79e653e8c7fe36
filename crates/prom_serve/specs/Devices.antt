-- How connections and a listener in memory are seen: the words of the crate that answers peers, passed on.
pub use Rattle.page_answers.specs.Devices.{ConnText, ListenerText, IsUnused}
