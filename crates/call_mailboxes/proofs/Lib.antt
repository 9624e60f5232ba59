-- Laws of the calls on mailboxes.
pub mod MailboxCalls
